use Rattle.std.proofs.Common.{ℕ, ◌<◌, IfSome}
use Rattle.dp_closed.specs.Found.{IsMeeting}
use Rattle.dp_closed.specs.Shown.{shown_area}
use Rattle.dp_closed.specs.Steps.{Closes, IsEntryIn}
use Rattle.dp_reach.specs.Bounds.{obligations}
use Rattle.dp_closed.proofs.claim_check.Checker.has_entries.Given as goal

abbrev pub invariant-loop-place : goal.invariant-loop-place
invariant-loop-place g l = record {
  met : IfSome l.before (IsMeeting (shown_area l.area));
  closed : (k : ℕ) → k < l.place → Closes l.self (λ claim answers. IsEntryIn (obligations g.T.Functions.Functions.table g.T.DutyTable.duties) claim answers (shown_area l.area) (record { context = l.number; entry = k }));
}
