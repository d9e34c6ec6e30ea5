use Rattle.std.proofs.Common.{◌≡◌, ◌++◌, drop}
use Rattle.dp_test_runs.specs.Points.{entered_in}
use Rattle.dp_test_runs.proofs.points.add_entered.Given as goal

abbrev pub invariant-loop-point : goal.invariant-loop-point
invariant-loop-point l = l.entered ++ entered_in (drop l.point-index l.points) ≡ l.fn.entered ++ entered_in l.points
