-- The tables that look-ups in a dialplan search.
use Rattle.std.specs.Prelude.{ℕ, Bool, List, is_some}
use Rattle.dp_lookup.specs.FoundEntry.{found_entry, found_label}
use Rattle.dp_lookup.specs.SearchOrder.{search_order}
use Rattle.dp_plan.specs.Plan.{PlanOf}

-- whether an entry answers for an extension of the context at the priority
unfoldable pub answers : PlanOf → List ℕ → List ℕ → ℕ → Bool
answers plan context exten priority = is_some (found_entry plan (search_order plan context) exten priority)

-- whether the extension of the context has the label
unfoldable pub has_label : PlanOf → List ℕ → List ℕ → List ℕ → Bool
has_label plan context exten label = is_some (found_label plan (search_order plan context) exten label)
