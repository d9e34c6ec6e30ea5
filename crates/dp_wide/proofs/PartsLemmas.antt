-- Texts that are cut at each byte of a kind, and parts with such a byte between them.
use Rattle.std.proofs.Common.{◌≡◌, ℕ, ◌+◌, ◌<◌, Bool, true, false, cond, eqb, ltb, Bor, List, [], ◌∷◌, ◌++◌, Option, Some, None, length, map, refl, ap, ◌∙◌, sym, arith, append-nil}
use Rattle.std.specs.List.{position_or_len, before_first, after_first, flat_map, join_with_byte}
use Rattle.std.proofs.lemmas.List.Sums.{fails_before_first}
use Rattle.std.proofs.lemmas.List.Elements.{All-from_get_or}
use Rattle.std.proofs.lemmas.List.Splits.{slice_split_first, slice_split_none}
use Rattle.std.proofs.lemmas.List.{length-drop}
use Rattle.std.proofs.lemmas.Bool.{ltb-true, ltb-false}
use Rattle.dp_conf.specs.Cut.{cut_once}
use Rattle.dp_wide.specs.Texts.{parts_of, chosen_from, is_chosen}

-- the parts of the remaining text
abbrev pub parts_left : ℕ → Option (Bor (List ℕ)) → List (List ℕ)
parts_left byte None = []
parts_left byte (Some text) = parts_of byte text.now

-- a number that decreases as the text is read
abbrev pub left_len : Option (Bor (List ℕ)) → ℕ
left_len None = 0
left_len (Some text) = length text.now + 1

-- the place of the first such byte in the text
abbrev place_of : ℕ → List ℕ → ℕ
place_of byte xs = position_or_len (λ b. eqb b byte) xs

-- how a text is cut, given the test whether the byte is in it
abbrev cut_by : ℕ → List ℕ → Bool → Option (List ℕ × List ℕ)
cut_by byte xs t = cond {A = Option (List ℕ × List ℕ)} t (Some (before_first (λ b. eqb b byte) xs, after_first (λ b. eqb b byte) xs)) None

-- what a found cut is
same_cut : (before after part rest : List ℕ) → (let cut : Option (List ℕ × List ℕ) = Some (before, after) in cut ≡ Some (part, rest)) → (before ≡ part) × (after ≡ rest)
same_cut before after part rest e =
    let pair : (let p : List ℕ × List ℕ = (before, after) in p ≡ (part, rest)) = cc in
    (ap (λ (p : List ℕ × List ℕ). p.0) pair, ap (λ (p : List ℕ × List ℕ). p.1) pair)

parts_of-cut_by : (byte : ℕ) (xs part rest : List ℕ) → (t : Bool) → ltb (place_of byte xs) (length xs) ≡ t → cut_by byte xs t ≡ Some (part, rest) → parts_of byte xs ≡ part ∷ parts_of byte rest
parts_of-cut_by byte xs part rest true l e =
    let same = same_cut (before_first (λ b. eqb b byte) xs) (after_first (λ b. eqb b byte) xs) part rest e in
    let before = same.0 in
    let after = same.1 in
    slice_split_first (λ b. eqb b byte) xs 0 (ltb-true _ _ l) ∙ (ap (λ (p : List ℕ). p ∷ parts_of byte (after_first (λ b. eqb b byte) xs)) before ∙ ap (λ (r : List ℕ). part ∷ parts_of byte r) after)
parts_of-cut_by byte xs part rest false l e = cc

-- if the byte cuts the text, the part before it is the first part
pub parts_of-cut : (byte : ℕ) (xs part rest : List ℕ) → cut_once byte xs ≡ Some (part, rest) → parts_of byte xs ≡ part ∷ parts_of byte rest
parts_of-cut byte xs part rest e = parts_of-cut_by byte xs part rest (ltb (place_of byte xs) (length xs)) refl e

parts_of-whole_by : (byte : ℕ) (xs : List ℕ) → (t : Bool) → ltb (place_of byte xs) (length xs) ≡ t → cut_by byte xs t ≡ None → parts_of byte xs ≡ xs ∷ []
parts_of-whole_by byte xs true l e = cc
parts_of-whole_by byte xs false l e =
    slice_split_none (λ b. eqb b byte) xs (All-from_get_or (λ b. eqb b byte ≡ false) xs 0 (λ i h. fails_before_first (λ b. eqb b byte) xs i 0 (omega (arith, ltb-false _ _ l))))

-- without such a byte the text is its only part
pub parts_of-whole : (byte : ℕ) (xs : List ℕ) → cut_once byte xs ≡ None → parts_of byte xs ≡ xs ∷ []
parts_of-whole byte xs e = parts_of-whole_by byte xs (ltb (place_of byte xs) (length xs)) refl e

length-cut_by : (byte : ℕ) (xs part rest : List ℕ) → (t : Bool) → ltb (place_of byte xs) (length xs) ≡ t → cut_by byte xs t ≡ Some (part, rest) → length rest < length xs
length-cut_by byte xs part rest true l e =
    let after = (same_cut (before_first (λ b. eqb b byte) xs) (after_first (λ b. eqb b byte) xs) part rest e).1 in
    let shorter = length-drop (place_of byte xs + 1) xs in
    let within = ltb-true _ _ l in
    rw (← after) (omega (arith, shorter, within))
length-cut_by byte xs part rest false l e = absurd cc

-- the text after a cut is shorter
pub length-cut_once : (byte : ℕ) (xs part rest : List ℕ) → cut_once byte xs ≡ Some (part, rest) → length rest < length xs
length-cut_once byte xs part rest e = length-cut_by byte xs part rest (ltb (place_of byte xs) (length xs)) refl e

-- the parts after the first, each with the byte before it
pub join_with_byte-each : (byte : ℕ) (part : Bor (List ℕ)) (parts : List (Bor (List ℕ)))
    → join_with_byte byte (map (λ x. x.now) (part ∷ parts)) ≡ part.now ++ flat_map (λ x. byte ∷ x.now) parts
join_with_byte-each byte part [] = sym (append-nil part.now)
join_with_byte-each byte part (other ∷ parts) =
    ap (λ (rest : List ℕ). part.now ++ (byte ∷ rest)) (join_with_byte-each byte other parts)

-- a field that is chosen, and one that is not
pub chosen_from-wanted : (number : ℕ) (fields field : List ℕ) (rest : List (List ℕ)) → is_chosen fields number ≡ true
    → chosen_from number fields (field ∷ rest) ≡ field ∷ chosen_from (number + 1) fields rest
chosen_from-wanted number fields field rest e = rw e refl

pub chosen_from-passed : (number : ℕ) (fields field : List ℕ) (rest : List (List ℕ)) → is_chosen fields number ≡ false
    → chosen_from number fields (field ∷ rest) ≡ chosen_from (number + 1) fields rest
chosen_from-passed number fields field rest e = rw e refl
