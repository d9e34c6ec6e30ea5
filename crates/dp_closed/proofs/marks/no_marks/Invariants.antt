use Rattle.std.proofs.Common.{◌≡◌, false, replicate}
use Rattle.dp_closed.proofs.marks.no_marks.Given as goal

abbrev pub invariant-loop : goal.invariant-loop
invariant-loop l = l.marks.items ≡ replicate l.counter false
