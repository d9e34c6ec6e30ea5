-- The entry at a place: the search begins in the place's context, and is for its extension and its priority.
use Rattle.std.specs.Prelude.{ℕ, Bool, List, Option, is_some}
use Rattle.std.specs.Option.{option_and_then, option_map}
use Rattle.dp_lookup.specs.FoundEntry.{found_entry, found_label, goes_on_more}
use Rattle.dp_lookup.specs.SearchOrder.{search_order}
use Rattle.dp_plan.specs.Lookup.{entry_at}
use Rattle.dp_plan.specs.Plan.{PlanOf}
use Rattle.dp_plan.specs.declared.entry.Entry.{Entry}
use Rattle.dp_plan.specs.declared.entry.EntryId.{EntryId}
use Rattle.dp_app.specs.declared.place.Place.{Place}

-- an entry with its numbers
pub record Located : Type 0 where
  pub id : EntryId
  pub entry : Entry

-- the entry with these numbers, with them
abbrev pub located_entry : PlanOf → EntryId → Option Located
located_entry plan id = option_map (λ entry. record { id = id; entry = entry }) (entry_at plan id)

-- the entry at a place of the dialplan
unfoldable pub entry_found : PlanOf → Place → Option Located
entry_found plan place =
    option_and_then (located_entry plan) (found_entry plan (search_order plan place.context) place.exten place.priority)

-- the numbers of the entry that is found for an extension of a context at a priority
unfoldable pub id_found : PlanOf → List ℕ → List ℕ → ℕ → Option EntryId
id_found plan context exten priority = found_entry plan (search_order plan context) exten priority

-- the numbers of the entry that is found at a place
abbrev pub id_at : PlanOf → Place → Option EntryId
id_at plan place = id_found plan place.context place.exten place.priority

-- whether an entry is found for an extension of a context at a priority
unfoldable pub is_found : PlanOf → List ℕ → List ℕ → ℕ → Bool
is_found plan context exten priority = is_some (found_entry plan (search_order plan context) exten priority)

-- whether a caller in a context can dial on after these digits
unfoldable pub could_go_on : PlanOf → List ℕ → List ℕ → Bool
could_go_on plan context digits = goes_on_more plan (search_order plan context) digits

-- the priority with a label, in an extension of a context
unfoldable pub label_found : PlanOf → List ℕ → List ℕ → List ℕ → Option ℕ
label_found plan context exten label = found_label plan (search_order plan context) exten label
