use Rattle.dp_audit.specs.steps.Neighbours.{AreAfter}
use Rattle.dp_audit.proofs.neighbours.mark_all.Given as goal

abbrev pub invariant-loop-place : goal.invariant-loop-place
invariant-loop-place l = AreAfter l.entries l.ids l.shift l.place l.marks
