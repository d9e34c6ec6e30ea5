use Rattle.std.proofs.Common.{◌≡◌, ◌-◌, ◌++◌}
use Rattle.dp_test_runs.specs.Settling.{ran_within, settled_within}
use Rattle.dp_test_runs.proofs.settling.settle_within.Given as goal

-- the steps that are left lead where all of them do
abbrev pub invariant-loop-step : goal.invariant-loop-step
invariant-loop-step l = record {
  world : settled_within (l.left - l._step) l.machine ≡ settled_within l.left l.fn.machine;
  ran : l.ran ++ ran_within (l.left - l._step) l.machine ≡ l.fn.ran ++ ran_within l.left l.fn.machine;
}
