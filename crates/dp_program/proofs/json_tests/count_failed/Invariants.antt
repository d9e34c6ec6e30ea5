use Rattle.std.proofs.Common.{◌≡◌, ◌≤◌, filter, length, take}
use Rattle.dp_program.specs.JsonTests.{is_failed}
use Rattle.dp_program.proofs.json_tests.count_failed.Given as goal

-- the tests that failed so far are counted
abbrev pub invariant-loop-point : goal.invariant-loop-point
invariant-loop-point l = record {
  counted : l.count ≡ length (filter is_failed (take l.point-index l.points));
  within : l.count ≤ l.point-index;
}
