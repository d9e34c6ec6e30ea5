-- Nothing is found in a context that the dialplan lacks.
use Rattle.std.proofs.Common.{◌≡◌, ℕ, Bool, true, false, not, ◌&&◌, List, [], Some, None, ap, sym, ◌∙◌, codes}
use Rattle.std.specs.Prelude.{is_some}
use Rattle.std.specs.Option.{option_and_then, option_map_or}
use Rattle.dp_lookup.specs.FoundEntry.{found_entry}
use Rattle.dp_lookup.specs.SearchOrder.{search_order, visit}
use Rattle.dp_plan.specs.Plan.{PlanOf}
use Rattle.dp_app.specs.declared.place.Place.{Place}
use Rattle.dp_machine.specs.Channels.{is_invalid}
use Rattle.dp_machine.specs.Found.{Located, entry_found, is_found, located_entry}
use Rattle.dp_reach.specs.Areas.{IsUnknown}

-- no context is searched
order-unknown : (plan : PlanOf) (context : List ℕ) → IsUnknown plan context → search_order plan context ≡ []
order-unknown plan context unknown = ap (λ o. option_map_or (visit plan []) o []) unknown

-- no entry is found
pub unknown-entry : (plan : PlanOf) (place : Place) (found : Located) → IsUnknown plan place.context → entry_found plan place ≡ Some found → ⊥
unfolding entry_found found_entry
unknown-entry plan place found unknown is =
    let none : entry_found plan place ≡ None
    = ap (λ order. option_and_then (located_entry plan) (found_entry plan order place.exten place.priority)) (order-unknown plan place.context unknown) in
    let no : None ≡ Some found = sym none ∙ is in let b : ⊥ = cc in b

-- and so the extension `i` is not
pub unknown-invalid : (plan : PlanOf) (place : Place) → IsUnknown plan place.context → is_invalid plan place ≡ true → ⊥
unfolding is_found found_entry
unknown-invalid plan place unknown is =
    by (not (is_found plan place.context place.exten 1)) (is_found plan place.context (codes "i") 1)
    (ap (λ order. is_some (found_entry plan order (codes "i") 1)) (order-unknown plan place.context unknown)) is
  where
    by : (a b : Bool) → b ≡ false → (a && b) ≡ true → ⊥
    by true b none both = let no : false ≡ true = sym none ∙ both in let c : ⊥ = cc in c
    by false b none both = (cc)
