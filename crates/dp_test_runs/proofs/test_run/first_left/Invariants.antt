use Rattle.std.proofs.Common.{◌≡◌, ◌+◌, ◌-◌, ◌≤◌, length}
use Rattle.std.specs.List.{find, range_with_len}
use Rattle.dp_test_runs.specs.Settling.{numbers_of}
use Rattle.dp_test_runs.specs.Tests.{is_left}
use Rattle.dp_test_runs.proofs.test_run.first_left.Given as goal

-- no channel before the number is left so
abbrev pub invariant-loop-alloc : goal.invariant-loop-alloc
invariant-loop-alloc l = record {
  same : l.machine ≡ l.fn.machine;
  first : 1 ≤ l.number;
  within : l.number ≤ length l.fn.machine.channels + 1;
  left : find (is_left l.fn.machine l.lines) (range_with_len l.number (length l.fn.machine.channels + 1 - l.number)) ≡ find (is_left l.fn.machine l.lines) (numbers_of l.fn.machine);
}

abbrev pub decreases-loop-alloc : goal.decreases-loop-alloc
decreases-loop-alloc l = length l.fn.machine.channels + 1 - l.number
