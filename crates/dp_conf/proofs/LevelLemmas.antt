-- The parts of a text between its commas of level 0, taken one after another.
use Rattle.std.proofs.Common.{Option, Some, None, Bor, length, take, drop, ◌≡◌, ℕ, ◌+◌, ◌-◌, ◌<◌, ◌≤◌, suc, get_or, add-one, drop-cons, Bool, true, false, cond, ◌&&◌, eqb, List, [], ◌∷◌, ◌++◌, refl, ap, ◌∙◌, sym, arith}
use Rattle.std.specs.List.{onto_first}
use Rattle.std.proofs.lemmas.List.Sums.{fold-append}
use Rattle.std.proofs.lemmas.List.{append-nil, append_assoc, take_all, drop_all, length-drop}
use Rattle.std.proofs.lemmas.Bool.{eqb-true, eq-eqb}
use Rattle.std.specs.Cmp.{first_so, second_so}
use Rattle.dp_conf.specs.Levels.{next_level, level_of, parts_arguments, split_after, parts_of, cut_after, stands_outside, cut_outside}

-- the parts with the bytes added before the first
abbrev pub onto_front : List ℕ → List (List ℕ) → List (List ℕ)
onto_front front [] = front ∷ []
onto_front front (part ∷ parts) = (front ++ part) ∷ parts

-- the level after one more byte depends on the level before it
pub level_of-push : (before : List ℕ) (x : ℕ) → level_of (before ++ x ∷ []) ≡ next_level (level_of before) x
level_of-push before x = fold-append next_level 0 before (x ∷ [])

-- only the level of the text before matters
pub split_after-level : (a b xs : List ℕ) → level_of a ≡ level_of b → split_after parts_arguments a xs ≡ split_after parts_arguments b xs
split_after-level a b [] e = refl
split_after-level a b (x ∷ xs) e =
    let next : level_of (a ++ x ∷ []) ≡ level_of (b ++ x ∷ []) = level_of-push a x ∙ (ap (λ n. next_level n x) e ∙ sym (level_of-push b x)) in
    ap (λ n. cond (eqb x 44 && eqb n 0) ([] ∷ split_after parts_arguments (a ++ x ∷ []) xs) (onto_first x (split_after parts_arguments (a ++ x ∷ []) xs))) e
    ∙ ap (λ (parts : List (List ℕ)). cond (parts_arguments b x) ([] ∷ parts) (onto_first x parts)) (split_after-level (a ++ x ∷ []) (b ++ x ∷ []) xs next)

onto_front-onto_first : (front : List ℕ) (x : ℕ) (parts : List (List ℕ)) → onto_front front (onto_first x parts) ≡ onto_front (front ++ x ∷ []) parts
onto_front-onto_first front x [] = refl
onto_front-onto_first front x (part ∷ parts) = ap (λ (p : List ℕ). p ∷ parts) (sym (append_assoc front (x ∷ []) part))

-- a byte that separates nothing belongs to the first part
pub split_after-plain : (front : List ℕ) (x : ℕ) (rest : List ℕ) → parts_arguments front x ≡ false → onto_front front (split_after parts_arguments front (x ∷ rest)) ≡ onto_front (front ++ x ∷ []) (split_after parts_arguments (front ++ x ∷ []) rest)
split_after-plain front x rest e =
    ap (λ t. onto_front front (cond t ([] ∷ split_after parts_arguments (front ++ x ∷ []) rest) (onto_first x (split_after parts_arguments (front ++ x ∷ []) rest)))) e
    ∙ onto_front-onto_first front x (split_after parts_arguments (front ++ x ∷ []) rest)

-- after a comma of level 0 the text is cut as if it began there
pub split_after-comma : (front rest : List ℕ) → level_of front ≡ 0 → onto_front front (split_after parts_arguments front (44 ∷ rest)) ≡ front ∷ split_after parts_arguments [] rest
split_after-comma front rest e =
    let level : level_of (front ++ 44 ∷ []) ≡ 0 = level_of-push front 44 ∙ ap (λ n. next_level n 44) e in
    ap (λ n. onto_front front (cond (eqb n 0) ([] ∷ split_after parts_arguments (front ++ 44 ∷ []) rest) (onto_first 44 (split_after parts_arguments (front ++ 44 ∷ []) rest)))) e
    ∙ ap (λ (parts : List (List ℕ)). (front ++ []) ∷ parts) (split_after-level (front ++ 44 ∷ []) [] rest level)
    ∙ ap (λ (part : List ℕ). part ∷ split_after parts_arguments [] rest) (append-nil front)

onto_front-nil : (x : ℕ) (t : Bool) (parts : List (List ℕ)) → onto_front [] (cond t ([] ∷ parts) (onto_first x parts)) ≡ cond t ([] ∷ parts) (onto_first x parts)
onto_front-nil x true parts = refl
onto_front-nil x false [] = refl
onto_front-nil x false (part ∷ parts) = refl

-- with nothing before the first part the parts are unchanged
pub onto_front-split_after : (before xs : List ℕ) → onto_front [] (split_after parts_arguments before xs) ≡ split_after parts_arguments before xs
onto_front-split_after before [] = refl
onto_front-split_after before (x ∷ xs) = onto_front-nil x (parts_arguments before x) (split_after parts_arguments (before ++ x ∷ []) xs)

-- the parts of the rest, if there is one
abbrev pub parts_left : Option (Bor (List ℕ)) → List (List ℕ)
parts_left None = []
parts_left (Some rest) = parts_of rest.now

-- the text from a place on begins with the byte there
pub drop-byte : (text : List ℕ) (at byte : ℕ) → at < length text → get_or text at 0 ≡ byte → drop at text ≡ byte ∷ drop (at + 1) text
drop-byte text at byte within here = rw (add-one, drop-cons text at 0) (ap (λ b. b ∷ drop (suc at) text) here)

-- the cut at a place whose byte is of level 0
pub cut_outside-found : (wanted : ℕ) (text : List ℕ) (at : ℕ) → drop at text ≡ wanted ∷ drop (at + 1) text → level_of (take at text) ≡ 0
    → cut_after (stands_outside wanted) (take at text) (drop at text) ≡ cut_outside wanted text
    → cut_outside wanted text ≡ Some (take at text, take (length text - (at + 1)) (drop (at + 1) text))
unfolding cut_outside
cut_outside-found wanted text at here level whole =
    rw (take_all (length text - (at + 1)) (drop (at + 1) text) (omega (arith, length-drop (at + 1) text)))
    (sym whole ∙ ap (cut_after (stands_outside wanted) (take at text)) here
    ∙ (λ i. cond (eq-eqb wanted wanted refl i && eqb (level i) 0) (Some (take at text, drop (at + 1) text)) (cut_after (stands_outside wanted) (take at text ++ wanted ∷ []) (drop (at + 1) text))))

-- the whole text has no cut
pub cut_outside-none : (wanted : ℕ) (text : List ℕ) (at : ℕ) → length text ≤ at
    → cut_after (stands_outside wanted) (take at text) (drop at text) ≡ cut_outside wanted text → cut_outside wanted text ≡ None
cut_outside-none wanted text at end whole = sym whole ∙ ap (cut_after (stands_outside wanted) (take at text)) (drop_all at text end)

-- the parts, given the first cut
abbrev pub parts_by : List ℕ → Option (List ℕ × List ℕ) → List (List ℕ)
parts_by text None = text ∷ []
parts_by text (Some cut) = cut.0 ∷ parts_of cut.1

split_after-cut : (before xs : List ℕ)
    → onto_front before (split_after parts_arguments before xs) ≡ parts_by (before ++ xs) (cut_after (stands_outside 44) before xs)
unfolding parts_of
split_after-cut before [] = refl
split_after-cut before (x ∷ xs) = by (parts_arguments before x) refl (split_after-cut (before ++ x ∷ []) xs)
  where
    by : (b : Bool) → parts_arguments before x ≡ b
        → onto_front (before ++ x ∷ []) (split_after parts_arguments (before ++ x ∷ []) xs) ≡ parts_by ((before ++ x ∷ []) ++ xs) (cut_after (stands_outside 44) (before ++ x ∷ []) xs)
        → onto_front before (split_after parts_arguments before (x ∷ xs)) ≡ parts_by (before ++ x ∷ xs) (cond b (Some (before, xs)) (cut_after (stands_outside 44) (before ++ x ∷ []) xs))
    by true e rest =
        let comma : x ≡ 44 = eqb-true x 44 (first_so _ _ e) in
        let level : level_of before ≡ 0 = eqb-true (level_of before) 0 (second_so (eqb x 44) _ e) in
        ap (λ b. onto_front before (split_after parts_arguments before (b ∷ xs))) comma ∙ split_after-comma before xs level
    by false e rest = split_after-plain before x xs e ∙ rest ∙ ap (λ text. parts_by text (cut_after (stands_outside 44) (before ++ x ∷ []) xs)) (append_assoc before (x ∷ []) xs)

-- the parts of a text, given its first cut
pub parts_of-cut : (text : List ℕ) → parts_of text ≡ parts_by text (cut_outside 44 text)
unfolding parts_of cut_outside
parts_of-cut text = sym (onto_front-split_after [] text) ∙ split_after-cut [] text
