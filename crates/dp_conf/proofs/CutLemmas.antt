-- A text cut at a byte, and its parts between line feeds.
use Rattle.std.proofs.Common.{◌≡◌, ℕ, ◌+◌, ◌-◌, ◌<◌, Bool, true, false, cond, eqb, List, [], ◌∷◌, ◌++◌, Option, Some, None, length, take, drop, refl, ap, ◌∙◌, sym, arith, MatchOption, ltb}
use Rattle.std.specs.Option.{option_map_or}
use Rattle.std.specs.List.{position_or_len, before_first, after_first}
use Rattle.std.proofs.lemmas.List.Sums.{position_or_len_is, fails_before_first}
use Rattle.std.proofs.lemmas.List.Elements.{All-from_get_or}
use Rattle.std.proofs.lemmas.List.Splits.{slice_split_first, slice_split_none}
use Rattle.std.proofs.lemmas.List.{take_all, length-drop}
use Rattle.std.proofs.lemmas.Bool.{false_from_ne_true, ltb-true, ltb-false}
use Rattle.bstr.specs.Find.{IsFirstByte, is_byte}
use Rattle.dp_conf.specs.Cut.{before_last, cut_once}
use Rattle.dp_conf.specs.Lines.{parts_of}

-- the result of a search for the byte is its first place
abbrev pub Finds : ℕ → List ℕ → Option ℕ → Type 0
Finds byte xs r = MatchOption r (position_or_len (λ b. eqb b byte) xs ≡ length xs) (λ at. (at < length xs) × (position_or_len (λ b. eqb b byte) xs ≡ at))

pub Finds-from_first : (byte : ℕ) (xs : List ℕ) (r : Option ℕ) → IsFirstByte (is_byte byte) xs r → Finds byte xs r
Finds-from_first byte xs None h =
    position_or_len_is (λ b. eqb b byte) xs (length xs) 0 (omega arith) (λ k l. false_from_ne_true _ (h k (omega arith) l)) (λ l. absurd (omega arith))
Finds-from_first byte xs (Some at) h =
    (h.0.high, position_or_len_is (λ b. eqb b byte) xs at 0 (omega (arith, h.0.high)) (λ k l. false_from_ne_true _ (h.0.before k (omega arith) l)) (λ _. h.1))

-- without the byte nothing is cut
pub cut_once-none : (byte : ℕ) (xs : List ℕ) → position_or_len (λ b. eqb b byte) xs ≡ length xs → cut_once byte xs ≡ None
cut_once-none byte xs e = rw e (grind arith)

-- the text is cut at the first place of the byte
pub cut_once-found : (byte : ℕ) (xs : List ℕ) (at : ℕ) → at < length xs → position_or_len (λ b. eqb b byte) xs ≡ at → cut_once byte xs ≡ Some (take at xs, drop (at + 1) xs)
cut_once-found byte xs at l e = rw e (grind arith)

-- the same, with the text after the place as a range up to the end
pub cut_once-at : (byte : ℕ) (xs : List ℕ) (at : ℕ) → at < length xs → position_or_len (λ b. eqb b byte) xs ≡ at → cut_once byte xs ≡ Some (take at xs, take (length xs - (at + 1)) (drop (at + 1) xs))
cut_once-at byte xs at l e =
    cut_once-found byte xs at l e
    ∙ ap (λ (after : List ℕ). Some (take at xs, after)) (sym (take_all (length xs - (at + 1)) (drop (at + 1) xs) (omega (arith, length-drop (at + 1) xs))))

-- the cut of a text, given a test whether it contains the byte
abbrev cut_by : ℕ → List ℕ → Bool → Option (List ℕ × List ℕ)
cut_by byte xs t = cond {A = Option (List ℕ × List ℕ)} t (Some (before_first (λ b. eqb b byte) xs, after_first (λ b. eqb b byte) xs)) None

-- the result of a found cut
same_cut : (before after part rest : List ℕ) → (let cut : Option (List ℕ × List ℕ) = Some (before, after) in cut ≡ Some (part, rest)) → (before ≡ part) × (after ≡ rest)
same_cut before after part rest e =
    let pair : (let p : List ℕ × List ℕ = (before, after) in p ≡ (part, rest)) = cc in
    (ap (λ (p : List ℕ × List ℕ). p.0) pair, ap (λ (p : List ℕ × List ℕ). p.1) pair)

-- the place of the byte in the text
abbrev place_of : ℕ → List ℕ → ℕ
place_of byte xs = position_or_len (λ b. eqb b byte) xs

parts_of-cut_by : (xs part rest : List ℕ) → (t : Bool) → ltb (place_of 10 xs) (length xs) ≡ t → cut_by 10 xs t ≡ Some (part, rest) → parts_of xs ≡ part ∷ parts_of rest
parts_of-cut_by xs part rest true l e =
    let same = same_cut (before_first (λ b. eqb b 10) xs) (after_first (λ b. eqb b 10) xs) part rest e in
    let before = same.0 in
    let after = same.1 in
    slice_split_first (λ b. eqb b 10) xs 0 (ltb-true _ _ l) ∙ (ap (λ (p : List ℕ). p ∷ parts_of (after_first (λ b. eqb b 10) xs)) before ∙ ap (λ (r : List ℕ). part ∷ parts_of r) after)
parts_of-cut_by xs part rest false l e = cc

-- if a line feed cuts the text, the text before it is the first part
pub parts_of-cut : (xs part rest : List ℕ) → cut_once 10 xs ≡ Some (part, rest) → parts_of xs ≡ part ∷ parts_of rest
parts_of-cut xs part rest e = parts_of-cut_by xs part rest (ltb (place_of 10 xs) (length xs)) refl e

parts_of-whole_by : (xs : List ℕ) → (t : Bool) → ltb (place_of 10 xs) (length xs) ≡ t → cut_by 10 xs t ≡ None → parts_of xs ≡ xs ∷ []
parts_of-whole_by xs true l e = cc
parts_of-whole_by xs false l e =
    slice_split_none (λ b. eqb b 10) xs (All-from_get_or (λ b. eqb b 10 ≡ false) xs 0 (λ i h. fails_before_first (λ b. eqb b 10) xs i 0 (omega (arith, ltb-false _ _ l))))

-- without a line feed the whole text is its only part
pub parts_of-whole : (xs : List ℕ) → cut_once 10 xs ≡ None → parts_of xs ≡ xs ∷ []
parts_of-whole xs e = parts_of-whole_by xs (ltb (place_of 10 xs) (length xs)) refl e

length-cut_by : (byte : ℕ) (xs part rest : List ℕ) → (t : Bool) → ltb (place_of byte xs) (length xs) ≡ t → cut_by byte xs t ≡ Some (part, rest) → length rest < length xs
length-cut_by byte xs part rest true l e =
    let after = (same_cut (before_first (λ b. eqb b byte) xs) (after_first (λ b. eqb b byte) xs) part rest e).1 in
    let shorter = length-drop (place_of byte xs + 1) xs in
    let within = ltb-true _ _ l in
    rw (← after) (omega (arith, shorter, within))
length-cut_by byte xs part rest false l e = absurd cc

-- the text after a cut is shorter
pub length-cut_once : (byte : ℕ) (xs part rest : List ℕ) → cut_once byte xs ≡ Some (part, rest) → length rest < length xs
length-cut_once byte xs part rest e = length-cut_by byte xs part rest (ltb (place_of byte xs) (length xs)) refl e

-- a byte may be added to the front before or after the test
front_with_byte : (b : Bool) (f : ℕ) (front : List ℕ) (o other : Option (List ℕ))
    → option_map_or (λ before. Some (f ∷ before)) (cond b (Some front) o) other ≡ cond b (Some (f ∷ front)) (option_map_or (λ before. Some (f ∷ before)) o other)
front_with_byte true f front o other = refl
front_with_byte false f front o other = refl

before_last-push : (byte : ℕ) (front : List ℕ) (last : ℕ)
    → before_last byte (front ++ last ∷ []) ≡ cond (eqb last byte) (Some front) (before_last byte front)
before_last-push byte [] last = refl
before_last-push byte (f ∷ front) last =
    ap (λ o. option_map_or (λ before. Some (f ∷ before)) o (cond (eqb f byte) (Some []) None)) (before_last-push byte front last)
    ∙ front_with_byte (eqb last byte) f front (before_last byte front) (cond (eqb f byte) (Some []) None)

-- the last byte is such a byte
pub before_last-found : (byte : ℕ) (text front : List ℕ) (last : ℕ) → text ≡ front ++ last ∷ [] → eqb last byte ≡ true
    → Some front ≡ before_last byte text
before_last-found byte text front last cut is =
    ap (λ b. cond b (Some front) (before_last byte front)) (sym is) ∙ sym (before_last-push byte front last) ∙ ap (before_last byte) (sym cut)

-- the last byte is another one
pub before_last-passed : (byte : ℕ) (text front : List ℕ) (last : ℕ) → text ≡ front ++ last ∷ [] → eqb last byte ≡ false
    → before_last byte front ≡ before_last byte text
before_last-passed byte text front last cut is =
    ap (λ b. cond b (Some front) (before_last byte front)) (sym is) ∙ sym (before_last-push byte front last) ∙ ap (before_last byte) (sym cut)
