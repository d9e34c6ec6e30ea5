use Rattle.std.proofs.Common.{◌≡◌, ◌+◌, ◌++◌, drop}
use Rattle.dp_test_runs.specs.Tap.{points_from}
use Rattle.dp_test_runs.proofs.tap.push_points.Given as goal

abbrev pub invariant-loop-point : goal.invariant-loop-point
invariant-loop-point l = record {
  number : l.number ≡ l.point-index;
  points : l.out.items ++ points_from l.shows_traces (l.number + 1) (drop l.point-index l.points) ≡ l.fn.out.items ++ points_from l.shows_traces 1 l.points;
}
