-- The contexts that a context includes.
use Rattle.std.proofs.Common.{◌≡◌, ℕ, ◌||◌, ◌==◌, List, [], ◌∷◌, map, refl, ap}
use Rattle.std.specs.List.{list_any}
use Rattle.dp_lookup.specs.SearchOrder.{has, link_of}
use Rattle.dp_plan.specs.Plan.{PlanOf}

-- a number is among those to which names lead if one of the names leads to it
pub any_link : (plan : PlanOf) (number : ℕ) (names : List (List ℕ)) → list_any (λ name. link_of plan name == number) names ≡ has (map (link_of plan) names) number
any_link plan number [] = refl
any_link plan number (name ∷ names) = ap (λ b. (link_of plan name == number) || b) (any_link plan number names)
