use Rattle.dp_lookup.proofs.FillingLemmas.{unmark_step, no_marks_are_set}
use Rattle.dp_lookup.proofs.visit.unmark.Goals as goal

pub loop-number-preserved : goal.loop-number-preserved
loop-number-preserved c = unmark_step c.args.order.now c.loop-number.number-index c.loop-number.marks c.loop-number-test.true c.loop-number.invariant

pub returns : goal.returns
returns c = no_marks_are_set c.args.order.now c.loop-number.number-index c.loop-number.marks c.loop-number-test.false c.loop-number.invariant
