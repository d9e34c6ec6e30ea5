-- How far a record agrees with the entries of a seat.
use Rattle.std.proofs.Common.{zero, suc, ◌≡◌, ◌≢◌, ℕ, ◌+◌, ◌<◌, ◌≤◌, true, false, List, [], ◌∷◌, ◌++◌, Some, None, length, take, drop, get_or, slice_get, if◌then◌else◌, ◌==◌, sym, ap, subst, ◌∙◌, arith}
use Rattle.std.proofs.lemmas.List.{at_drop_more, length-take-le, append-nil, take_more, append_assoc, length-append}
use Rattle.std.proofs.lemmas.Option.{slice_get-get_or, slice_get_past, none-some, slice_get_within, get_or_from_slice_get}
use Rattle.std.proofs.Math.Seq.{take-append_seam, get_or-append_seam}
use Rattle.dp_board.specs.declared.seat_call.SeatCall.{SeatCall}
use Rattle.dp_board.specs.Difference.{told_of, told_from, FirstDiffers}
use Rattle.dp_board.specs.declared.entry.Entry.{Entry}

-- a list that begins with this number of items of another
front_of : (told rest all : List SeatCall) (index : ℕ) → index ≤ length told → take index told ++ rest ≡ all → take index all ≡ take index told
front_of told rest all index within whole =
    subst (λ n. take n all ≡ take index told) (length-take-le index told within)
    (subst (λ l. take (length (take index told)) l ≡ take index told) whole (take-append_seam (take index told) rest))

-- the item after this number of items of another
seam_of : (told rest all : List SeatCall) (index : ℕ) (call : SeatCall) → index ≤ length told → take index told ++ call ∷ rest ≡ all → slice_get all index ≡ Some call
seam_of told rest all index call within whole =
    subst (λ l. slice_get l index ≡ Some call) whole
    (subst (λ n. slice_get (take index told ++ call ∷ rest) n ≡ Some call) (length-take-le index told within)
    (slice_get-get_or (take index told ++ call ∷ rest) (length (take index told)) call (omega (arith, length-append (take index told) (call ∷ rest)))
    ∙ ap (λ c. Some c) (get_or-append_seam (take index told) call rest call)))

-- the next entry of a seat is not in its record
pub differs-item : (told rest all : List SeatCall) (index : ℕ) (call : SeatCall) → index ≤ length told → take index told ++ call ∷ rest ≡ all → slice_get told index ≢ Some call → FirstDiffers all told index
differs-item told rest all index call within whole other = record {
  before = front_of told (call ∷ rest) all index within whole;
  there = λ same. other (sym same ∙ seam_of told rest all index call within whole);
}

-- at a place within a list there is an item
not_past : (xs : List SeatCall) (i : ℕ) → i < length xs → slice_get xs i ≡ None → ⊥
not_past [] i lt past = absurd (omega arith)
not_past (x ∷ xs) zero lt past = none-some x (sym past)
not_past (x ∷ xs) (suc i) lt past = not_past xs i (omega arith) past

-- the record goes on after all entries of the seat
pub differs-end : (told all : List SeatCall) (index : ℕ) → index < length told → take index told ++ [] ≡ all → FirstDiffers all told index
differs-end told all index more whole =
    let within : index ≤ length told = omega (arith, more) in
    let len : length all ≡ index = ap length (sym whole) ∙ (ap length (append-nil (take index told)) ∙ length-take-le index told within) in
    record {
      before = front_of told [] all index within whole;
      there = λ same. not_past told index more (sym same ∙ slice_get_past all index (omega (arith, len)));
    }

-- the next entry is the seat's own, or another's
pub own-step : (seat place : ℕ) (entries : List Entry) (entry : Entry) → place < length entries → get_or entries place entry ≡ entry → (entry.seat == seat) ≡ true → told_from seat place (drop place entries) ≡ told_of place entry ∷ told_from seat (place + 1) (drop (place + 1) entries)
own-step seat place entries entry more there own =
    at_drop_more (λ (es : List Entry). told_from seat place es) entries place entry more
    ∙ (ap (λ (e : Entry). told_from seat place (e ∷ drop (place + 1) entries)) there
    ∙ ap (λ b. if b then told_of place entry ∷ told_from seat (place + 1) (drop (place + 1) entries) else told_from seat (place + 1) (drop (place + 1) entries)) own)

pub other-step : (seat place : ℕ) (entries : List Entry) (entry : Entry) → place < length entries → get_or entries place entry ≡ entry → (entry.seat == seat) ≡ false → told_from seat place (drop place entries) ≡ told_from seat (place + 1) (drop (place + 1) entries)
other-step seat place entries entry more there other =
    at_drop_more (λ (es : List Entry). told_from seat place es) entries place entry more
    ∙ (ap (λ (e : Entry). told_from seat place (e ∷ drop (place + 1) entries)) there
    ∙ ap (λ b. if b then told_of place entry ∷ told_from seat (place + 1) (drop (place + 1) entries) else told_from seat (place + 1) (drop (place + 1) entries)) other)

-- one more item of the record is the seat's entry
pub take-told : (told rest : List SeatCall) (index : ℕ) (call : SeatCall) → slice_get told index ≡ Some call → take (index + 1) told ++ rest ≡ take index told ++ call ∷ rest
take-told told rest index call there =
    let more : index < length told = slice_get_within told index call there in
    ap (λ (l : List SeatCall). l ++ rest) (take_more told index call more ∙ ap (λ (c : SeatCall). take index told ++ c ∷ []) (get_or_from_slice_get told index call call there))
    ∙ append_assoc (take index told) (call ∷ []) rest

-- after an entry of the seat that its record has
pub same-own : (seat place index next : ℕ) (entries : List Entry) (told all : List SeatCall) (entry : Entry) → place < length entries → get_or entries place entry ≡ entry → (entry.seat == seat) ≡ true → slice_get told index ≡ Some (told_of place entry) → next ≡ index + 1 → take index told ++ told_from seat place (drop place entries) ≡ all → take next told ++ told_from seat (place + 1) (drop (place + 1) entries) ≡ all
same-own seat place index next entries told all entry more there own recorded next_is same =
    ap (λ n. take n told ++ told_from seat (place + 1) (drop (place + 1) entries)) next_is
    ∙ (take-told told (told_from seat (place + 1) (drop (place + 1) entries)) index (told_of place entry) recorded
    ∙ (ap (λ (l : List SeatCall). take index told ++ l) (sym (own-step seat place entries entry more there own)) ∙ same))

-- after an entry of another seat
pub same-other : (seat place index next : ℕ) (entries : List Entry) (told all : List SeatCall) (entry : Entry) → place < length entries → get_or entries place entry ≡ entry → (entry.seat == seat) ≡ false → next ≡ index → take index told ++ told_from seat place (drop place entries) ≡ all → take next told ++ told_from seat (place + 1) (drop (place + 1) entries) ≡ all
same-other seat place index next entries told all entry more there other next_is same =
    ap (λ n. take n told ++ told_from seat (place + 1) (drop (place + 1) entries)) next_is
    ∙ (ap (λ (l : List SeatCall). take index told ++ l) (sym (other-step seat place entries entry more there other)) ∙ same)
