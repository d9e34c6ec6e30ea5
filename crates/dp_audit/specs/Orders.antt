-- The search orders of contexts, by the numbers of the contexts.
use Rattle.std.specs.Prelude.{ℕ, ◌==◌, List, [], ◌∷◌, slice_get, if◌then◌else◌}
use Rattle.std.specs.Option.{option_map_or}
use Rattle.dp_lookup.specs.SearchOrder.{search_order}
use Rattle.dp_plan.specs.Plan.{PlanOf}

-- the search order of the context with a number; empty if there is no such context
abbrev pub order_at : PlanOf → ℕ → List ℕ
order_at plan number = option_map_or (λ context. search_order plan context.name) (slice_get plan.contexts number) []

-- the contexts of an order before the context with a number
abbrev pub before : ℕ → List ℕ → List ℕ
before number [] = []
before number (first ∷ order) = if first == number then [] else first ∷ before number order
