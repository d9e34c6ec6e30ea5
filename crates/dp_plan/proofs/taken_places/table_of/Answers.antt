use Rattle.std.proofs.Common.{◌∙◌, arith}
use Rattle.dp_plan.proofs.PlaceLemmas.{table_step}
use Rattle.dp_plan.proofs.taken_places.table_of.Goals as goal

pub loop-slot-preserved : goal.loop-slot-preserved
loop-slot-preserved c =
    c.in_ok-insert.ensures.keys ∙ table_step c.args.slots.now c.loop-slot.table.keys c.loop-slot.slot-index _ c.requires c.loop-slot.invariant (omega (arith, c.loop-slot-test.true))
