use Rattle.std.proofs.Common.{◌≡◌, ◌+◌, ◌++◌, drop}
use Rattle.dp_program.specs.JsonTests.{points_text}
use Rattle.dp_program.proofs.json_tests.push_points.Given as goal

abbrev pub invariant-loop-point : goal.invariant-loop-point
invariant-loop-point l = record {
  number : l.number ≡ l.point-index;
  points : l.out.items ++ points_text (l.number + 1) (drop l.point-index l.points) ≡ l.fn.out.items ++ points_text 1 l.points;
}
