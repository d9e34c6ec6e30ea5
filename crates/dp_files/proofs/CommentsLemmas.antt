-- The rest of a line after one more mark or byte, and the lines of a file after one more part.
use Rattle.std.proofs.Common.{◌≡◌, ◌≢◌, ◌⊎◌, inl, inr, ℕ, ◌+◌, ◌-◌, ◌<◌, nat_eq, Bool, true, false, cond, eqb, ltb, not, ◌&&◌, ◌||◌, List, [], ◌∷◌, ◌++◌, Option, Some, None, slice_range, take, drop, length, refl, ap, sym, ◌∙◌, arith}
use Rattle.std.specs.List.{list_any, starts_with, position_or_len, before_first, after_first}
use Rattle.std.proofs.lemmas.Bool.{eq-eqb, false≢true, ltb-true, ltb-false}
use Rattle.std.proofs.lemmas.Bool.Decides.{eqb_tells}
use Rattle.std.proofs.lemmas.List.Elements.{All-from_get_or}
use Rattle.std.proofs.lemmas.List.Splits.{slice_split_first, slice_split_none}
use Rattle.std.proofs.lemmas.List.Sums.{fails_before_first}
use Rattle.std.proofs.lemmas.List.{append_assoc, append-nil, take_all, length-drop, length-take-le, drop-drop}
use Rattle.dp_conf.specs.Cut.{cut_once}
use Rattle.dp_conf.specs.Blanks.{trim}
use Rattle.dp_conf.specs.Lines.{opens_block, parts_of, without_mark, without_escapes, content_of}
use Rattle.dp_conf.proofs.LinesLemmas.{comment_start-none}
use Rattle.dp_conf.proofs.TextLemmas.{either-false}
use Rattle.dp_files.specs.Comments.{Uncovered, with_byte, closes_block, uncovered_from, FileLinesOf, with_line, lines_after, file_lines}

-- the bytes of a mark are skipped
pub uncovered_from-mark : (line : ℕ) (unclosed : List ℕ) (previous : ℕ) (text : List ℕ) → uncovered_from line 2 unclosed previous text ≡ uncovered_from line 0 unclosed 10 (drop 2 text)
uncovered_from-mark line unclosed previous [] = refl
uncovered_from-mark line unclosed previous (b ∷ []) = refl
uncovered_from-mark line unclosed previous (b ∷ c ∷ text) = refl

-- an opening inside a block comment
pub uncovered_from-opens : (line : ℕ) (unclosed : List ℕ) (previous : ℕ) (text : List ℕ) → 0 < length unclosed → opens_block text ≡ true
    → uncovered_from line 0 (line ∷ unclosed) 10 (drop 3 text) ≡ uncovered_from line 0 unclosed previous text
uncovered_from-opens line [] previous text some opens = absurd (omega (arith, some))
uncovered_from-opens line (inner ∷ outer) previous [] some opens = absurd cc
uncovered_from-opens line (inner ∷ outer) previous (b ∷ bs) some opens =
    sym (ap (λ t. cond {A = Uncovered} t (uncovered_from line 2 (line ∷ inner ∷ outer) 10 bs) (cond (closes_block (b ∷ bs)) (uncovered_from line 2 outer 10 bs) (uncovered_from line 0 (inner ∷ outer) 10 bs))) opens
    ∙ uncovered_from-mark line (line ∷ inner ∷ outer) 10 bs)

-- an end inside a block comment
pub uncovered_from-closes : (line : ℕ) (unclosed : List ℕ) (previous : ℕ) (text : List ℕ) → 0 < length unclosed → opens_block text ≡ false → closes_block text ≡ true
    → uncovered_from line 0 (drop 1 unclosed) 10 (drop 3 text) ≡ uncovered_from line 0 unclosed previous text
uncovered_from-closes line [] previous text some opens closes = absurd (omega (arith, some))
uncovered_from-closes line (inner ∷ outer) previous [] some opens closes = absurd cc
uncovered_from-closes line (inner ∷ outer) previous (b ∷ bs) some opens closes =
    sym (ap (λ t. cond {A = Uncovered} t (uncovered_from line 2 (line ∷ inner ∷ outer) 10 bs) (cond (closes_block (b ∷ bs)) (uncovered_from line 2 outer 10 bs) (uncovered_from line 0 (inner ∷ outer) 10 bs))) opens
    ∙ ap (λ t. cond {A = Uncovered} t (uncovered_from line 2 outer 10 bs) (uncovered_from line 0 (inner ∷ outer) 10 bs)) closes
    ∙ uncovered_from-mark line outer 10 bs)

-- any other byte inside a block comment
pub uncovered_from-covered : (line : ℕ) (unclosed : List ℕ) (previous : ℕ) (text : List ℕ) → 0 < length unclosed → opens_block text ≡ false → closes_block text ≡ false
    → uncovered_from line 0 unclosed 10 (drop 1 text) ≡ uncovered_from line 0 unclosed previous text
uncovered_from-covered line [] previous text some opens closes = absurd (omega (arith, some))
uncovered_from-covered line (inner ∷ outer) previous [] some opens closes = refl
uncovered_from-covered line (inner ∷ outer) previous (b ∷ bs) some opens closes =
    sym (ap (λ t. cond {A = Uncovered} t (uncovered_from line 2 (line ∷ inner ∷ outer) 10 bs) (cond (closes_block (b ∷ bs)) (uncovered_from line 2 outer 10 bs) (uncovered_from line 0 (inner ∷ outer) 10 bs))) opens
    ∙ ap (λ t. cond {A = Uncovered} t (uncovered_from line 2 outer 10 bs) (uncovered_from line 0 (inner ∷ outer) 10 bs)) closes)

-- the bytes kept so far come before the rest of the line
abbrev pub with_front : List ℕ → Uncovered → Uncovered
with_front kept rest = record { text = kept ++ rest.text; unclosed = rest.unclosed }

-- a byte outside block comments that begins no comment
pub uncovered_from-kept : (line : ℕ) (previous b : ℕ) (bs kept : List ℕ) → (eqb b 59 && not (eqb previous 92)) ≡ false
    → with_front (kept ++ b ∷ []) (uncovered_from line 0 [] b bs) ≡ with_front kept (uncovered_from line 0 [] previous (b ∷ bs))
uncovered_from-kept line previous b bs kept plain =
    ap (λ text. let u : Uncovered = record { text = text; unclosed = (uncovered_from line 0 [] b bs).unclosed } in u) (append_assoc kept (b ∷ []) (uncovered_from line 0 [] b bs).text)
    ∙ ap (λ t. with_front kept (cond {A = Uncovered} t (cond (opens_block (b ∷ bs)) (uncovered_from line 2 (line ∷ []) 10 bs) (record { text = b ∷ bs; unclosed = [] })) (with_byte b (uncovered_from line 0 [] b bs)))) (sym plain)

-- an opening outside block comments
pub uncovered_from-begins : (line : ℕ) (previous b : ℕ) (bs : List ℕ) → (eqb b 59 && not (eqb previous 92)) ≡ true → opens_block (b ∷ bs) ≡ true
    → uncovered_from line 0 (line ∷ []) 10 (drop 3 (b ∷ bs)) ≡ uncovered_from line 0 [] previous (b ∷ bs)
uncovered_from-begins line previous b bs comment opens =
    sym (ap (λ t. cond {A = Uncovered} t (cond (opens_block (b ∷ bs)) (uncovered_from line 2 (line ∷ []) 10 bs) (record { text = b ∷ bs; unclosed = [] })) (with_byte b (uncovered_from line 0 [] b bs))) comment
    ∙ ap (λ t. cond {A = Uncovered} t (uncovered_from line 2 (line ∷ []) 10 bs) (record { text = b ∷ bs; unclosed = [] })) opens
    ∙ uncovered_from-mark line (line ∷ []) 10 bs)

-- a comment that ends the line
pub uncovered_from-ends : (line : ℕ) (previous b : ℕ) (bs : List ℕ) → (eqb b 59 && not (eqb previous 92)) ≡ true → opens_block (b ∷ bs) ≡ false
    → uncovered_from line 0 [] previous (b ∷ bs) ≡ record { text = b ∷ bs; unclosed = [] }
uncovered_from-ends line previous b bs comment opens =
    ap (λ t. cond {A = Uncovered} t (cond (opens_block (b ∷ bs)) (uncovered_from line 2 (line ∷ []) 10 bs) (record { text = b ∷ bs; unclosed = [] })) (with_byte b (uncovered_from line 0 [] b bs))) comment
    ∙ ap (λ t. cond {A = Uncovered} t (uncovered_from line 2 (line ∷ []) 10 bs) (record { text = b ∷ bs; unclosed = [] })) opens

-- a range up to the end
pub rest_range : (count : ℕ) (text : List ℕ) → take (length text - count) (drop count text) ≡ drop count text
rest_range count text = take_all (length text - count) (drop count text) (omega (arith, length-drop count text))

-- the lines that were read come before the remaining ones
abbrev pub with_lines : List (List ℕ) → FileLinesOf → FileLinesOf
with_lines front rest = record { texts = front ++ rest.texts; open_comment = rest.open_comment }

-- one more line
pub lines_after-line : (front : List (List ℕ)) (text : List ℕ) (rest : FileLinesOf) → with_lines (front ++ text ∷ []) rest ≡ with_lines front (with_line text rest)
lines_after-line front text rest = ap (λ texts. let lines : FileLinesOf = record { texts = texts; open_comment = rest.open_comment } in lines) (append_assoc front (text ∷ []) rest.texts)

-- at the end of the line
pub uncovered_from-over : (line : ℕ) (unclosed : List ℕ) (previous : ℕ) (left kept : List ℕ) (whole : Uncovered) → with_front kept (uncovered_from line 0 unclosed previous left) ≡ whole → length left ≡ 0
    → whole ≡ record { text = kept; unclosed = unclosed }
uncovered_from-over line unclosed previous [] kept whole e none =
    sym e ∙ ap (λ text. let u : Uncovered = record { text = text; unclosed = unclosed } in u) (append-nil kept)
uncovered_from-over line unclosed previous (b ∷ bs) kept whole e none = absurd (omega (arith, none))

-- at a comment that ends the line
pub uncovered_from-ended : (line : ℕ) (unclosed : List ℕ) (previous b : ℕ) (bs left kept : List ℕ) (whole : Uncovered)
    → with_front kept (uncovered_from line 0 unclosed previous left) ≡ whole → left ≡ b ∷ bs → length unclosed ≡ 0 → (eqb b 59 && not (eqb previous 92)) ≡ true → opens_block left ≡ false
    → whole ≡ record { text = kept ++ left; unclosed = unclosed }
uncovered_from-ended line [] previous b bs left kept whole e is none comment opens =
    sym e ∙ ap (λ (text : List ℕ). with_front kept (uncovered_from line 0 [] previous text)) is
    ∙ ap (with_front kept) (uncovered_from-ends line previous b bs comment (sym (ap opens_block is) ∙ opens))
    ∙ ap (λ (text : List ℕ). let u : Uncovered = record { text = kept ++ text; unclosed = [] } in u) (sym is)
uncovered_from-ended line (inner ∷ outer) previous b bs left kept whole e is none comment opens = absurd (omega (arith, none))

-- no line has been read yet
pub lines_after-text : (text : List ℕ) → with_lines [] (lines_after 0 [] (parts_of (without_mark text))) ≡ file_lines text
unfolding file_lines
lines_after-text text = refl

-- ---- lines without block comments

-- the rest of a line is kept as it is
abbrev pub Stands : ℕ → ℕ → List ℕ → Type 0
Stands line previous text = uncovered_from line 0 [] previous text ≡ record { text = text; unclosed = [] }

-- a rest without a `;`
pub stands-plain : (line previous : ℕ) (text : List ℕ) → list_any (λ b. eqb b 59) text ≡ false → Stands line previous text
stands-plain line previous [] none = refl
stands-plain line previous (b ∷ bs) none = by (eqb b 59) (stands-plain line b bs) none
  where
    by : (t : Bool) → (list_any (λ b. eqb b 59) bs ≡ false → Stands line b bs) → (t || list_any (λ b. eqb b 59) bs) ≡ false
        → cond {A = Uncovered} (t && not (eqb previous 92)) (cond (opens_block (b ∷ bs)) (uncovered_from line 2 (line ∷ []) 10 bs) (record { text = b ∷ bs; unclosed = [] })) (with_byte b (uncovered_from line 0 [] b bs)) ≡ record { text = b ∷ bs; unclosed = [] }
    by true later e = absurd cc
    by false later e = ap (with_byte b) (later e)

-- a rest that begins with a byte that begins no comment
pub stands-byte : (line previous b : ℕ) (bs : List ℕ) → (eqb b 59 && not (eqb previous 92)) ≡ false → Stands line b bs → Stands line previous (b ∷ bs)
stands-byte line previous b bs plain stands =
    ap (λ t. cond {A = Uncovered} t (cond (opens_block (b ∷ bs)) (uncovered_from line 2 (line ∷ []) 10 bs) (record { text = b ∷ bs; unclosed = [] })) (with_byte b (uncovered_from line 0 [] b bs))) plain
    ∙ ap (with_byte b) stands

-- a text without a `;` does not begin with one
begins_with_none : (text : List ℕ) → list_any (λ b. eqb b 59) text ≡ false → starts_with nat_eq text (59 ∷ []) ≡ false
begins_with_none [] none = refl
begins_with_none (b ∷ bs) none = by (eqb_tells 59 b)
  where
    by : ((eqb 59 b ≡ true) × (59 ≡ b)) ⊎ ((eqb 59 b ≡ false) × (59 ≢ b)) → starts_with nat_eq (b ∷ bs) (59 ∷ []) ≡ false
    by (inl same) = absurd (false≢true (sym none ∙ ap (λ t. t || list_any (λ x. eqb x 59) bs) (eq-eqb b 59 (sym same.1))))
    by (inr other) = ap (λ t. t && true) other.0

-- a text without a `;` has no escapes
without_escapes-plain : (text : List ℕ) → list_any (λ b. eqb b 59) text ≡ false → without_escapes text ≡ text
without_escapes-plain [] none = refl
without_escapes-plain (b ∷ bs) none =
    let rest = (either-false (eqb b 59) (list_any (λ x. eqb x 59) bs) none).1 in
    by (eqb b 92) (begins_with_none bs rest) (without_escapes-plain bs rest)
  where
    by : (t : Bool) → starts_with nat_eq bs (59 ∷ []) ≡ false → without_escapes bs ≡ bs
        → cond (t && starts_with nat_eq bs (59 ∷ [])) (without_escapes bs) (b ∷ without_escapes bs) ≡ b ∷ bs
    by true start rest = ap (λ s. cond s (without_escapes bs) (b ∷ without_escapes bs)) start ∙ ap (λ (later : List ℕ). b ∷ later) rest
    by false start rest = ap (λ (later : List ℕ). b ∷ later) rest

-- so its content is all of it, without blanks at its ends
pub content_of-plain : (text : List ℕ) → list_any (λ b. eqb b 59) text ≡ false → content_of text ≡ trim text
content_of-plain text none =
    ap (λ n. trim (without_escapes (take n text))) (comment_start-none 10 text none)
    ∙ ap (λ (t : List ℕ). trim (without_escapes t)) (take_all (length text) text (omega arith))
    ∙ ap trim (without_escapes-plain text none)

-- nothing is left
pub stands-empty : (line previous : ℕ) (left : List ℕ) → length left ≡ 0 → Stands line previous left
stands-empty line previous [] none = refl
stands-empty line previous (b ∷ bs) none = absurd (omega (arith, none))

-- a comment that ends the line
pub stands-comment : (line previous b : ℕ) (bs left : List ℕ) → left ≡ b ∷ bs → (eqb b 59 && not (eqb previous 92)) ≡ true → opens_block left ≡ false → Stands line previous left
stands-comment line previous b bs left is comment opens =
    ap (λ (text : List ℕ). uncovered_from line 0 [] previous text) is
    ∙ uncovered_from-ends line previous b bs comment (sym (ap opens_block is) ∙ opens)
    ∙ ap (λ (text : List ℕ). let u : Uncovered = record { text = text; unclosed = [] } in u) (sym is)

-- ---- the places of lines

-- a number that decreases as the lines from a place on are read
abbrev pub left_from : ℕ → Option ℕ → ℕ
left_from count None = 0
left_from count (Some start) = count - start + 1

-- the number of bytes before the first such byte
abbrev place_of : ℕ → List ℕ → ℕ
place_of byte xs = position_or_len (λ b. eqb b byte) xs

-- the cut of a text, given a test whether the byte is in it
abbrev cut_by : ℕ → List ℕ → Bool → Option (List ℕ × List ℕ)
cut_by byte xs t = cond {A = Option (List ℕ × List ℕ)} t (Some (before_first (λ b. eqb b byte) xs, after_first (λ b. eqb b byte) xs)) None

-- the parts of a cut
same_cut : (before after part rest : List ℕ) → (let cut : Option (List ℕ × List ℕ) = Some (before, after) in cut ≡ Some (part, rest)) → (before ≡ part) × (after ≡ rest)
same_cut before after part rest e =
    let pair : (let p : List ℕ × List ℕ = (before, after) in p ≡ (part, rest)) = cc in
    (ap (λ (p : List ℕ × List ℕ). p.0) pair, ap (λ (p : List ℕ × List ℕ). p.1) pair)

-- a text that is cut at a line feed
parts_of-cut : (xs part rest : List ℕ) → cut_once 10 xs ≡ Some (part, rest) → parts_of xs ≡ part ∷ parts_of rest
parts_of-cut xs part rest e = by (ltb (place_of 10 xs) (length xs)) refl e
  where
    by : (t : Bool) → ltb (place_of 10 xs) (length xs) ≡ t → cut_by 10 xs t ≡ Some (part, rest) → parts_of xs ≡ part ∷ parts_of rest
    by false l e = absurd cc
    by true l e =
        let same = same_cut (before_first (λ b. eqb b 10) xs) (after_first (λ b. eqb b 10) xs) part rest e in
        slice_split_first (λ b. eqb b 10) xs 0 (ltb-true _ _ l)
        ∙ (ap (λ (p : List ℕ). p ∷ parts_of (after_first (λ b. eqb b 10) xs)) (same.0) ∙ ap (λ (r : List ℕ). part ∷ parts_of r) (same.1))

-- a text without a line feed
parts_of-whole : (xs : List ℕ) → cut_once 10 xs ≡ None → parts_of xs ≡ xs ∷ []
parts_of-whole xs e = by (ltb (place_of 10 xs) (length xs)) refl e
  where
    by : (t : Bool) → ltb (place_of 10 xs) (length xs) ≡ t → cut_by 10 xs t ≡ None → parts_of xs ≡ xs ∷ []
    by true l e = absurd cc
    by false l e =
        slice_split_none (λ b. eqb b 10) xs (All-from_get_or (λ b. eqb b 10 ≡ false) xs 0 (λ i h. fails_before_first (λ b. eqb b 10) xs i 0 (omega (arith, ltb-false _ _ l))))

-- a text that is cut at a byte, by the length of the part before it
pub cut_places : (byte : ℕ) (xs part rest : List ℕ) → cut_once byte xs ≡ Some (part, rest)
    → (part ≡ take (length part) xs) × (rest ≡ drop (length part + 1) xs) × (length part < length xs)
cut_places byte xs part rest e = by (ltb (place_of byte xs) (length xs)) refl e
  where
    by : (t : Bool) → ltb (place_of byte xs) (length xs) ≡ t → cut_by byte xs t ≡ Some (part, rest)
        → (part ≡ take (length part) xs) × (rest ≡ drop (length part + 1) xs) × (length part < length xs)
    by false l e = absurd cc
    by true l e =
        let within = ltb-true _ _ l in
        let same = same_cut (before_first (λ b. eqb b byte) xs) (after_first (λ b. eqb b byte) xs) part rest e in
        let before : take (place_of byte xs) xs ≡ part = same.0 in
        let after : drop (place_of byte xs + 1) xs ≡ rest = same.1 in
        let count : length part ≡ place_of byte xs = sym (ap length before) ∙ length-take-le (place_of byte xs) xs (omega (arith, within)) in (
          sym before ∙ ap (λ n. take n xs) (sym count),
          sym after ∙ ap (λ n. drop (n + 1) xs) (sym count),
          omega (arith, within, count),
        )

-- the last line of a text
pub parts_from-last : (text : List ℕ) (start : ℕ) → cut_once 10 (take (length text - start) (drop start text)) ≡ None
    → parts_of (drop start text) ≡ slice_range text start (length text) ∷ []
parts_from-last text start e =
    ap parts_of (sym (rest_range start text)) ∙ parts_of-whole (take (length text - start) (drop start text)) e

-- a line before others
pub parts_from-line : (text part rest : List ℕ) (start : ℕ) → cut_once 10 (take (length text - start) (drop start text)) ≡ Some (part, rest)
    → parts_of (drop start text) ≡ slice_range text start (start + length part) ∷ parts_of (drop (start + length part + 1) text)
parts_from-line text part rest start e =
    let whole = rest_range start text in
    let places = cut_places 10 (drop start text) part rest (ap (cut_once 10) (sym whole) ∙ e) in
    let count : length part ≡ start + length part - start = omega arith in
    let sum : start + (length part + 1) ≡ start + length part + 1 = omega arith in
    let later : drop (length part + 1) (drop start text) ≡ drop (start + length part + 1) text = drop-drop (length part + 1) start text ∙ ap (λ n. drop n text) sum in
    ap parts_of (sym whole) ∙ parts_of-cut (take (length text - start) (drop start text)) part rest e
    ∙ ap (λ (p : List ℕ). p ∷ parts_of rest) (places.0 ∙ ap (λ n. take n (drop start text)) count)
    ∙ ap (λ (r : List ℕ). slice_range text start (start + length part) ∷ parts_of r) (places.1 ∙ later)
