use Rattle.std.proofs.Common.{◌≡◌, ◌++◌, drop}
use Rattle.dp_test_runs.proofs.points.push_each.Given as goal

abbrev pub invariant-loop-id : goal.invariant-loop-id
invariant-loop-id l = l.entered ++ drop l.id-index l.ids ≡ l.fn.entered ++ l.ids
