-- The level of a place in a text, and the parts between the commas of level 0.
use Rattle.std.specs.Prelude.{ℕ, ◌+◌, ◌-◌, Bool, ◌&&◌, ◌==◌, List, [], ◌∷◌, ◌++◌, map, fold, Option, Some, None, if◌then◌else◌}
use Rattle.std.specs.List.{onto_first}
use Rattle.dp_conf.specs.Blanks.{trim}

-- a `(` raises the level by one, and a `)` lowers it by one, but not below zero
abbrev pub next_level : ℕ → ℕ → ℕ
next_level level byte = if byte == 40 then level + 1 else (if byte == 41 then level - 1 else level)

-- the level of a place, given the bytes before it
abbrev pub level_of : List ℕ → ℕ
level_of before = fold next_level 0 before

-- a comma separates arguments if its level is 0
abbrev pub parts_arguments : List ℕ → ℕ → Bool
parts_arguments before byte = byte == 44 && level_of before == 0

-- the parts between the elements at which `cuts` holds, given the elements before each and itself
abbrev pub split_after : {X : Type 0} → (List X → X → Bool) → List X → List X → List (List X)
split_after cuts before [] = [] ∷ []
split_after cuts before (x ∷ xs) =
    if cuts before x then [] ∷ split_after cuts (before ++ x ∷ []) xs
    else onto_first x (split_after cuts (before ++ x ∷ []) xs)

-- the parts of a text between its commas of level 0
unfoldable pub parts_of : List ℕ → List (List ℕ)
parts_of text = split_after parts_arguments [] text

-- the arguments of a text: its parts, each without the blanks at its ends
abbrev pub arguments_of : List ℕ → List (List ℕ)
arguments_of text = map trim (parts_of text)

-- what comes before the first element at which `cuts` holds, given the elements before it and itself, and what comes after it
abbrev pub cut_after : {X : Type 0} → (List X → X → Bool) → List X → List X → Option (List X × List X)
cut_after cuts before [] = None
cut_after cuts before (x ∷ xs) = if cuts before x then Some (before, xs) else cut_after cuts (before ++ x ∷ []) xs

-- such a byte of level 0
abbrev pub stands_outside : ℕ → List ℕ → ℕ → Bool
stands_outside wanted before byte = byte == wanted && level_of before == 0

-- the text before the first such byte of level 0 and the text after it, if there is one
unfoldable pub cut_outside : ℕ → List ℕ → Option (List ℕ × List ℕ)
cut_outside wanted text = cut_after (stands_outside wanted) [] text
