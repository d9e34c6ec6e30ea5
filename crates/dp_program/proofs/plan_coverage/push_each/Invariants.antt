use Rattle.std.proofs.Common.{◌≡◌, ◌++◌, drop}
use Rattle.dp_program.proofs.plan_coverage.push_each.Given as goal

abbrev pub invariant-loop-id : goal.invariant-loop-id
invariant-loop-id l = l.entered ++ drop l.id-index l.ids ≡ l.fn.entered ++ l.ids
