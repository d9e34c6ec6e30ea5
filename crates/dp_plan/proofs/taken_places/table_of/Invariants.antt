use Rattle.std.proofs.Common.{◌≡◌, take}
use Rattle.dp_plan.proofs.taken_places.table_of.Given as goal

abbrev pub invariant-loop-slot : goal.invariant-loop-slot
invariant-loop-slot l = l.table.keys ≡ take l.slot-index l.slots
