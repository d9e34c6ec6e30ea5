-- The targets of an entry, after others.
use Rattle.std.proofs.Common.{◌≡◌, ℕ, List, ◌++◌, Option, append_assoc, map, ap, sym, ◌∙◌}
use Rattle.std.specs.List.{flat_map}
use Rattle.std.specs.Option.{option_to_list}
use Rattle.std.proofs.lemmas.List.{map-append}
use Rattle.std.proofs.lemmas.List.Concat.{flat_map-append}
use Rattle.dp_audit.specs.Targets.{sides}

-- the targets of two texts
pub both_texts : {X Y : Type 0} (f : X → Y) (g : List ℕ → X) (before : List Y) (first second : Option (List ℕ))
    → (before ++ map f (map g (option_to_list first))) ++ map f (map g (option_to_list second)) ≡ before ++ map f (map g (sides first second))
both_texts f g before first second =
    append_assoc before (map f (map g (option_to_list first))) (map f (map g (option_to_list second)))
    ∙ ap (λ more. before ++ more)
    (sym (ap (map f) (map-append g (option_to_list first) (option_to_list second))
    ∙ map-append f (map g (option_to_list first)) (map g (option_to_list second))))

-- the targets of two lists of calls
pub both_calls : {C X Y : Type 0} (f : X → Y) (targets : C → List X) (before : List Y) (first second : List C)
    → (before ++ map f (flat_map targets first)) ++ map f (flat_map targets second) ≡ before ++ map f (flat_map targets (first ++ second))
both_calls f targets before first second =
    append_assoc before (map f (flat_map targets first)) (map f (flat_map targets second))
    ∙ ap (λ more. before ++ more)
    (sym (ap (map f) (flat_map-append targets first second)
    ∙ map-append f (flat_map targets first) (flat_map targets second)))
