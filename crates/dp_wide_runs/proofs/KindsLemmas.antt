-- Tests over changed lists.
use Rattle.std.proofs.Common.{◌≡◌, Bool, ◌||◌, List, [], ◌∷◌, map, refl, ap}
use Rattle.std.specs.List.{list_any}

-- whether a changed element passes a test
pub any_of_map : {X Y : Type 0} (test : Y → Bool) (change : X → Y) (xs : List X) → list_any test (map change xs) ≡ list_any (λ x. test (change x)) xs
any_of_map test change [] = refl
any_of_map test change (x ∷ xs) = ap (λ rest. test (change x) || rest) (any_of_map test change xs)
