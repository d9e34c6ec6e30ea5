use Rattle.std.proofs.Common.{◌≡◌, ◌+◌, ◌-◌, ◌≤◌, length}
use Rattle.std.specs.List.{find, range_with_len}
use Rattle.dp_test_runs.specs.Settling.{can_step, numbers_of}
use Rattle.dp_test_runs.proofs.settling.next_to_step.Given as goal

-- no channel before the number can be stepped
abbrev pub invariant-loop-alloc : goal.invariant-loop-alloc
invariant-loop-alloc l = record {
  same : l.machine ≡ l.fn.machine;
  first : 1 ≤ l.number;
  within : l.number ≤ length l.fn.machine.channels + 1;
  left : find (can_step l.fn.machine) (range_with_len l.number (length l.fn.machine.channels + 1 - l.number)) ≡ find (can_step l.fn.machine) (numbers_of l.fn.machine);
}

abbrev pub decreases-loop-alloc : goal.decreases-loop-alloc
decreases-loop-alloc l = length l.fn.machine.channels + 1 - l.number
