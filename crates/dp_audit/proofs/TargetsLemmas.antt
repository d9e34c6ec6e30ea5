-- The targets of an entry that pass a test.
use Rattle.std.proofs.Common.{◌≡◌, ℕ, Bool, true, false, List, [], ◌∷◌, ◌++◌, Option, Some, None, append_assoc, filter, map, if◌then◌else◌, ap, refl, sym, ◌∙◌}
use Rattle.std.specs.Option.{option_to_list}
use Rattle.std.proofs.lemmas.List.{map-append}
use Rattle.std.proofs.lemmas.List.Elements.{filter-append}
use Rattle.dp_audit.specs.Targets.{if_passes, sides}

-- one side
filter_side : (test : List ℕ → Bool) (side : Option (List ℕ)) → option_to_list (if_passes test side) ≡ filter test (option_to_list side)
filter_side test None = refl
filter_side test (Some text) = by (test text)
  where
    by : (b : Bool) → option_to_list (if b then Some text else None) ≡ (if b then text ∷ [] else [])
    by true = refl
    by false = refl

-- both sides
pub filter_sides : (test : List ℕ → Bool) (first second : Option (List ℕ)) → sides (if_passes test first) (if_passes test second) ≡ filter test (sides first second)
filter_sides test first second =
    ap (λ xs. xs ++ option_to_list (if_passes test second)) (filter_side test first)
    ∙ ap (λ ys. filter test (option_to_list first) ++ ys) (filter_side test second)
    ∙ sym (filter-append test (option_to_list first) (option_to_list second))

-- the result for both sides, after others
pub map_sides : {X : Type 0} (f : List ℕ → X) (before : List X) (first second : Option (List ℕ)) →
    (before ++ map f (option_to_list first)) ++ map f (option_to_list second) ≡ before ++ map f (sides first second)
map_sides f before first second =
    append_assoc before (map f (option_to_list first)) (map f (option_to_list second))
    ∙ ap (λ xs. before ++ xs) (sym (map-append f (option_to_list first) (option_to_list second)))
