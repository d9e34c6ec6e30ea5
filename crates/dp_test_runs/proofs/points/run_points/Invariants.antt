use Rattle.std.proofs.Common.{◌≡◌, ◌++◌, drop, map}
use Rattle.dp_test_runs.specs.Points.{point_in, points_in}
use Rattle.dp_test_runs.specs.Tests.{beginning}
use Rattle.dp_test_runs.proofs.points.run_points.Given as goal

-- each test begins in the first world, and the points so far are those of the tests before
abbrev pub invariant-loop-test : goal.invariant-loop-test
invariant-loop-test l =
    (l.course ≡ beginning l.fn.first)
    × (l.points ++ map (point_in l.tested l.fn.first) (drop l.test-index l.tested.file.now.tests) ≡ points_in l.tested l.fn.first)
