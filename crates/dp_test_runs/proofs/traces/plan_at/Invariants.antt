use Rattle.std.proofs.Common.{◌≡◌, drop, fold}
use Rattle.dp_test_runs.specs.Traces.{plan_after, plan_at}
use Rattle.dp_test_runs.proofs.traces.plan_at.Given as goal

abbrev pub invariant-loop-change : goal.invariant-loop-change
invariant-loop-change l = fold (plan_after l.place) l.plan (drop l.change-index l.changes) ≡ plan_at l.changes l.place
