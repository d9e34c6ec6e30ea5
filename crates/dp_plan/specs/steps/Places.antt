-- A step of the code: the places that entries have taken, and the form in which they are kept.
use Rattle.std.specs.Prelude.{ℕ, ◌≤◌, Bool, ◌&&◌, ◌==◌, List, get_or}
use Rattle.std.specs.List.{AllByRecursion}
use Rattle.dp_plan.specs.declared.taken_places.Kept.{Kept}
use Rattle.dp_plan.specs.declared.taken_places.Kept.TheVariants.{Listed, Looked}
use Rattle.dp_plan.specs.declared.taken_places.Slot.{Slot}

-- two slots are the same place
abbrev pub same_slot : Slot → Slot → Bool
same_slot a b = a.extension == b.extension && a.priority == b.priority

-- the kept places, in the order in which they were taken
abbrev pub slots_in : Kept → List Slot
slots_in (Listed slots) = slots.items
slots_in (Looked table) = table.keys

-- no place is above the greatest priority of its extension
abbrev pub AreBounded : List ℕ → List Slot → Type 0
AreBounded greatest slots = AllByRecursion (λ slot. slot.priority ≤ get_or greatest slot.extension 0) slots
