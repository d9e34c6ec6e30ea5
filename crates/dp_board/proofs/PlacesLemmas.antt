-- The entries of a seat among the first entries, the number of a seat's entries, and records whose calls are at their places.
use Rattle.std.proofs.Common.{zero, suc, ◌≡◌, ℕ, ◌+◌, ◌-◌, ◌<◌, ◌≤◌, ◌==◌, Bool, true, false, true≢false, List, [], ◌∷◌, ◌++◌}
use Rattle.std.proofs.Common.{Option, Some, None, length, map, take, drop, get_or, set, replicate, slice_get, slice_index, if◌then◌else◌}
use Rattle.std.proofs.Common.{refl, sym, ap, subst, ◌∙◌, arith}
use Rattle.std.proofs.lemmas.Bool.{eqb-true, eq-eqb}
use Rattle.std.proofs.lemmas.List.{append-nil, length-append, length-map, length-take-le, nil_from_length, take_more, take-append-drop}
use Rattle.std.proofs.lemmas.List.{take-take, take_all, get_or-map, get_or-set_same, get_or-set_other}
use Rattle.std.proofs.lemmas.Option.{none-some, slice_get-get_or, slice_get_within, get_or_from_slice_get}
use Rattle.dp_board.specs.Difference.{told_of, told_from, told_to}
use Rattle.dp_board.specs.declared.entry.Entry.{Entry}
use Rattle.dp_board.specs.declared.seat_call.SeatCall.{SeatCall}
use Rattle.dp_board.specs.steps.Places.{CountsEntries, IsToldBy}
use Rattle.dp_board.proofs.HistoryLemmas.{PlacesRise-of}

-- a seat's entries among more entries come after
told_from-append : (seat place : ℕ) (xs ys : List Entry)
    → told_from seat place (xs ++ ys) ≡ told_from seat place xs ++ told_from seat (place + length xs) ys
told_from-append seat place [] ys = ap (λ n. told_from seat n ys) (omega arith)
told_from-append seat place (x ∷ xs) ys = by (x.seat == seat)
    (told_from-append seat (place + 1) xs ys ∙ ap (λ n. told_from seat (place + 1) xs ++ told_from seat n ys) (omega arith)) where
      by : (own : Bool)
          → told_from seat (place + 1) (xs ++ ys) ≡ told_from seat (place + 1) xs ++ told_from seat (place + length (x ∷ xs)) ys
          → (if own then told_of place x ∷ told_from seat (place + 1) (xs ++ ys) else told_from seat (place + 1) (xs ++ ys))
          ≡ (if own then told_of place x ∷ told_from seat (place + 1) xs else told_from seat (place + 1) xs)
          ++ told_from seat (place + length (x ∷ xs)) ys
      by true rest = ap (λ l. told_of place x ∷ l) rest
      by false rest = rest

-- and so if the first of them is at 0
told_to-append : (seat : ℕ) (xs ys : List Entry) → told_to seat (xs ++ ys) ≡ told_to seat xs ++ told_from seat (length xs) ys
told_to-append seat xs ys = told_from-append seat 0 xs ys ∙ ap (λ n. told_to seat xs ++ told_from seat n ys) (omega arith)

-- a seat has no more entries than there are
pub told_from-few : (seat place : ℕ) (entries : List Entry) → length (told_from seat place entries) ≤ length entries
told_from-few seat place [] = omega arith
told_from-few seat place (x ∷ xs) = by (x.seat == seat) (told_from-few seat (place + 1) xs) where
  by : (own : Bool) → length (told_from seat (place + 1) xs) ≤ length xs
      → length (if own then told_of place x ∷ told_from seat (place + 1) xs else told_from seat (place + 1) xs) ≤ length (x ∷ xs)
  by true rest = omega (arith, rest)
  by false rest = omega (arith, rest)

-- one more entry, if it is the seat's own, or another's
told_to-one : (seat : ℕ) (entries : List Entry) (entry : Entry) (own : Bool) → (entry.seat == seat) ≡ own
    → told_to seat (entries ++ entry ∷ []) ≡ told_to seat entries ++ (if own then told_of (length entries) entry ∷ [] else [])
told_to-one seat entries entry own is =
    told_to-append seat entries (entry ∷ [])
    ∙ ap (λ b. told_to seat entries ++ (if b then told_of (length entries) entry ∷ [] else [])) is

-- the counts before the first entry
pub CountsEntries-none : (counts : List ℕ) (size : ℕ) → counts ≡ replicate size 0 → CountsEntries [] counts
CountsEntries-none counts size fresh seat lt = ap (λ (l : List ℕ). slice_index l seat) fresh ∙ zeros size seat where
  zeros : (size seat : ℕ) → slice_index (replicate size 0) seat ≡ 0
  zeros zero seat = refl
  zeros (suc size) zero = refl
  zeros (suc size) (suc seat) = zeros size seat

-- the counts after one more entry
pub CountsEntries-more : (now : List ℕ) (before : List Entry) (entry : Entry) (new : List ℕ) → CountsEntries before now
    → entry.seat < length now → new ≡ set now entry.seat (get_or now entry.seat 0 + 1) → length new ≡ length now
    → CountsEntries (before ++ entry ∷ []) new
CountsEntries-more now before entry new counts within set_is len seat lt = by (entry.seat == seat) refl where
  one : ℕ
  one = get_or now entry.seat 0 + 1

  counted : length (told_to seat before) ≡ get_or now seat 0
  counted = sym (counts seat (omega (arith, lt, len)))

  by : (own : Bool) → (entry.seat == seat) ≡ own → get_or new seat 0 ≡ length (told_to seat (before ++ entry ∷ []))
  by true own =
      let put : get_or new entry.seat 0 ≡ one =
      ap (λ (l : List ℕ). get_or l entry.seat 0) set_is ∙ get_or-set_same now entry.seat one 0 within in
      let here : get_or new seat 0 ≡ get_or now seat 0 + 1 =
      subst (λ n. get_or new n 0 ≡ get_or now n 0 + 1) (eqb-true entry.seat seat own) put in
      let more = ap length (told_to-one seat before entry true own) in
      omega (arith, here, counted, more, length-append (told_to seat before) (told_of (length before) entry ∷ []))
  by false other =
      let unlike = λ (e : seat ≡ entry.seat). true≢false (sym (eq-eqb entry.seat seat (sym e)) ∙ other) in
      let here : get_or new seat 0 ≡ get_or now seat 0 =
      ap (λ (l : List ℕ). get_or l seat 0) set_is ∙ get_or-set_other now entry.seat seat one 0 unlike in
      let more = ap length (told_to-one seat before entry false other) in
      omega (arith, here, counted, more, length-append (told_to seat before) [])

-- a seat's entries before a place
abbrev told_before : ℕ → List Entry → ℕ → List SeatCall
told_before seat entries place = told_to seat (take place entries)

-- a seat's entries from one place to another
abbrev told_between : ℕ → List Entry → ℕ → ℕ → List SeatCall
told_between seat entries next place = told_from seat (length (take next entries)) (drop next (take place entries))

-- the latter comes after the former
told_before-more : (seat : ℕ) (entries : List Entry) (next place : ℕ) → next ≤ place
    → told_before seat entries place ≡ told_before seat entries next ++ told_between seat entries next place
told_before-more seat entries next place le =
    ap (told_to seat) (sym (take-append-drop next (take place entries)))
    ∙ (ap (λ (l : List Entry). told_to seat (l ++ drop next (take place entries))) (take-take next place entries le)
    ∙ told_to-append seat (take next entries) (drop next (take place entries)))

-- a list that continues another, and is not longer
no-longer : (xs ys all : List SeatCall) → all ≡ xs ++ ys → length all ≤ length xs → all ≡ xs
no-longer xs ys all is le =
    let none : length ys ≡ 0 = omega (arith, ap length is, length-append xs ys) in
    is ∙ (ap (λ (l : List SeatCall). xs ++ l) (nil_from_length ys none) ∙ append-nil xs)

-- a seat's entries up to one of its own
told_before-own : (seat : ℕ) (entries : List Entry) (call : SeatCall) (entry : Entry) → slice_get entries call.place ≡ Some entry
    → IsToldBy seat call (Some entry) → told_before seat entries (call.place + 1) ≡ told_before seat entries call.place ++ call ∷ []
told_before-own seat entries call entry there is =
    let place = call.place in
    let within : place < length entries = slice_get_within entries place entry there in
    let here : get_or entries place entry ≡ entry = get_or_from_slice_get entries place entry entry there in
    let len : length (take place entries) ≡ place = length-take-le place entries (omega (arith, within)) in
    ap (told_to seat) (take_more entries place entry within ∙ ap (λ (e : Entry). take place entries ++ e ∷ []) here)
    ∙ (told_to-one seat (take place entries) entry true (eq-eqb entry.seat seat is.0)
    ∙ ap (λ (c : SeatCall). told_before seat entries place ++ c ∷ []) (ap (λ n. told_of n entry) len ∙ sym is.1))

-- the places in a record
abbrev places : List SeatCall → List ℕ
places told = map (λ call. call.place) told

-- this number of calls of a record are at their places, before the next place, which is the one after the last of them: they are no more
-- than the seat's entries before it, and are these entries if they are as many
pub record StandBefore (seat : ℕ) (entries : List Entry) (told : List SeatCall) (count next : ℕ) : Type 0 where
  pub few : count ≤ length (told_before seat entries next)
  pub same : count ≡ length (told_before seat entries next) → take count told ≡ told_before seat entries next
  pub first : count ≡ 0 → next ≡ 0
  pub last : (index : ℕ) → index + 1 ≡ count → next ≡ get_or (places told) index 0 + 1

-- the place of a call of a record
place-at : (told : List SeatCall) (index : ℕ) (call : SeatCall) → index < length told → get_or told index call ≡ call
    → get_or (places told) index 0 ≡ call.place
place-at told index call lt here = get_or-map (λ (c : SeatCall). c.place) told index call 0 lt ∙ ap (λ (c : SeatCall). c.place) here

-- one more call, which is that of its entry
more : (seat : ℕ) (entries : List Entry) (told : List SeatCall) (count next : ℕ) (call : SeatCall) (entry : Entry)
    → StandBefore seat entries told count next → next ≤ call.place → count < length told → get_or told count call ≡ call
    → slice_get entries call.place ≡ Some entry → IsToldBy seat call (Some entry)
    → StandBefore seat entries told (count + 1) (call.place + 1)
more seat entries told count next call entry before le lt here there is =
    let old = told_before seat entries next in
    let between = told_between seat entries next call.place in
    let up_to = told_before seat entries call.place in
    let on : up_to ≡ old ++ between = told_before-more seat entries next call.place le in
    let own : told_before seat entries (call.place + 1) ≡ up_to ++ call ∷ [] = told_before-own seat entries call entry there is in
    let sum : length up_to ≡ length old + length between = ap length on ∙ length-append old between in
    let one : length (told_before seat entries (call.place + 1)) ≡ length up_to + 1 = ap length own ∙ length-append up_to (call ∷ []) in
    record {
      few = omega (arith, before.few, sum, one);
      same = λ e.
          take_more told count call lt
          ∙ (ap (λ (c : SeatCall). take count told ++ c ∷ []) here
          ∙ (ap (λ (l : List SeatCall). l ++ call ∷ []) (before.same (omega (arith, before.few, sum, one, e)))
          ∙ (ap (λ (l : List SeatCall). l ++ call ∷ []) (sym (no-longer old between up_to on (omega (arith, before.few, sum, one, e))))
          ∙ sym own)));
      first = λ e. absurd (omega (arith, e));
      last = λ index e.
          let at : get_or (places told) index 0 ≡ call.place =
          ap (λ n. get_or (places told) n 0) (omega (arith, e)) ∙ place-at told count call lt here in
          omega (arith, at);
    }

pub StandBefore-more : (seat : ℕ) (entries : List Entry) (told : List SeatCall) (count next : ℕ) (call : SeatCall) (found : Option Entry)
    → slice_get entries call.place ≡ found → IsToldBy seat call found
    → StandBefore seat entries told count next → next ≤ call.place → count < length told → get_or told count call ≡ call
    → StandBefore seat entries told (count + 1) (call.place + 1)
StandBefore-more seat entries told count next call None there is before le lt here = absurd is
StandBefore-more seat entries told count next call (Some entry) there is before le lt here =
    more seat entries told count next call entry before le lt here there is

-- its place is one of the entries'
pub place-within : (seat : ℕ) (entries : List Entry) (call : SeatCall) (found : Option Entry)
    → slice_get entries call.place ≡ found → IsToldBy seat call found → call.place < length entries
place-within seat entries call None there is = absurd is
place-within seat entries call (Some entry) there is = slice_get_within entries call.place entry there

-- after the last call, if there are as many calls as entries of the seat
pub StandBefore-all : (seat : ℕ) (entries : List Entry) (told : List SeatCall) (count next : ℕ) → StandBefore seat entries told count next
    → length told ≤ count → length told ≡ length (told_to seat entries) → told_to seat entries ≡ told
StandBefore-all seat entries told count next before all len =
    let old = told_before seat entries next in
    let rest = told_from seat (length (take next entries)) (drop next entries) in
    let on : told_to seat entries ≡ old ++ rest =
    ap (told_to seat) (sym (take-append-drop next entries)) ∙ told_to-append seat (take next entries) (drop next entries) in
    let sum : length (told_to seat entries) ≡ length old + length rest = ap length on ∙ length-append old rest in
    no-longer old rest (told_to seat entries) on (omega (arith, before.few, sum, len, all))
    ∙ (sym (before.same (omega (arith, before.few, sum, len, all))) ∙ take_all count told all)

-- in a record that has the seat's entries, the place of the next call is not before the one after the last call's
pub StandBefore-reaches : (seat : ℕ) (entries : List Entry) (told : List SeatCall) (count next : ℕ) (call : SeatCall)
    → StandBefore seat entries told count next → told_to seat entries ≡ told → count < length told → get_or told count call ≡ call
    → next ≤ call.place
StandBefore-reaches seat entries told zero next call before same lt here = omega (arith, before.first refl)
StandBefore-reaches seat entries told (suc index) next call before same lt here =
    let len : length (places told) ≡ length told = length-map told (λ (c : SeatCall). c.place) in
    let rise : get_or (places told) index 0 < get_or (places told) (index + 1) 0 =
    PlacesRise-of entries (record { number = seat; told = told }) same index (omega (arith, lt, len)) in
    let at : get_or (places told) (index + 1) 0 ≡ call.place =
    ap (λ n. get_or (places told) n 0) (omega arith) ∙ place-at told (suc index) call lt here in
    omega (arith, rise, at, before.last index (omega arith))

-- a call is at its place among entries, the first of which is at this place
record StandsFrom (seat place : ℕ) (entries : List Entry) (call : SeatCall) : Type 0 where
  from : place ≤ call.place
  there : IsToldBy seat call (slice_get entries (call.place - place))

StandsFrom-here : (seat place : ℕ) (entry : Entry) (entries : List Entry) (call : SeatCall) → entry.seat ≡ seat → told_of place entry ≡ call
    → StandsFrom seat place (entry ∷ entries) call
StandsFrom-here seat place entry entries call own is =
    let same : call.place ≡ place = ap (λ (c : SeatCall). c.place) (sym is) in
    let none : call.place - place ≡ 0 = omega (arith, same) in
    let told : call ≡ told_of call.place entry = sym is ∙ ap (λ n. told_of n entry) (sym same) in
    record {
      from = omega (arith, same);
      there = subst (λ n. IsToldBy seat call (slice_get (entry ∷ entries) n)) (sym none) (own, told);
    }

StandsFrom-later : (seat place : ℕ) (entry : Entry) (entries : List Entry) (call : SeatCall) → StandsFrom seat (place + 1) entries call
    → StandsFrom seat place (entry ∷ entries) call
StandsFrom-later seat place entry entries call later =
    let one : call.place - place ≡ suc (call.place - (place + 1)) = omega (arith, later.from) in
    record {
      from = omega (arith, later.from);
      there = subst (λ n. IsToldBy seat call (slice_get (entry ∷ entries) n)) (sym one) later.there;
    }

-- each call among the seat's entries
told_from-stands : (seat place : ℕ) (entries : List Entry) (index : ℕ) (call : SeatCall)
    → slice_get (told_from seat place entries) index ≡ Some call → StandsFrom seat place entries call
told_from-stands seat place [] index call is = absurd (none-some call is)
told_from-stands seat place (entry ∷ entries) index call is = by (entry.seat == seat) refl index is
    (λ k at. StandsFrom-later seat place entry entries call (told_from-stands seat (place + 1) entries k call at)) where
      by : (own : Bool) → (entry.seat == seat) ≡ own → (index : ℕ)
          → slice_get (if own then told_of place entry ∷ told_from seat (place + 1) entries else told_from seat (place + 1) entries) index
          ≡ Some call
          → ((k : ℕ) → slice_get (told_from seat (place + 1) entries) k ≡ Some call → StandsFrom seat place (entry ∷ entries) call)
          → StandsFrom seat place (entry ∷ entries) call
      by true own zero is later = StandsFrom-here seat place entry entries call (eqb-true entry.seat seat own) (cc)
      by true own (suc index) is later = later index is
      by false other index is later = later index is

-- and so each call of a record that has them
pub told-stands : (seat : ℕ) (entries : List Entry) (told : List SeatCall) (index : ℕ) (call : SeatCall) → told_to seat entries ≡ told
    → index < length told → get_or told index call ≡ call → IsToldBy seat call (slice_get entries call.place)
told-stands seat entries told index call same lt here =
    let there : slice_get (told_to seat entries) index ≡ Some call =
    ap (λ (l : List SeatCall). slice_get l index) same ∙ (slice_get-get_or told index call lt ∙ ap (λ (c : SeatCall). Some c) here) in
    let none : call.place - 0 ≡ call.place = omega arith in
    subst (λ n. IsToldBy seat call (slice_get entries n)) none (told_from-stands seat 0 entries index call there).there
