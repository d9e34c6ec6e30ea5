use Rattle.std.proofs.Common.{drop}
use Rattle.dp_closed.specs.Shown.{shown_area}
use Rattle.dp_closed.specs.Steps.{Closes}
use Rattle.dp_reach.specs.Bounds.{obligations}
use Rattle.dp_closed.proofs.ClosedLemmas.{AreEntriesIn, HoldsOfEach}
use Rattle.dp_closed.proofs.claim_check.Checker.has_order.Given as goal

abbrev pub invariant-loop-number : goal.invariant-loop-number
invariant-loop-number g l = Closes l.self (λ claim answers. HoldsOfEach (AreEntriesIn (obligations g.T.Functions.Functions.table g.T.DutyTable.duties) claim answers (shown_area l.area)) (drop l.number-index l.order)
    → HoldsOfEach (AreEntriesIn (obligations g.T.Functions.Functions.table g.T.DutyTable.duties) claim answers (shown_area l.area)) l.order)
