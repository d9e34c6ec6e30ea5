use Rattle.dp_closed.specs.Claimed.{kept_claim}
use Rattle.dp_closed.specs.Shown.{shown_area}
use Rattle.dp_closed.specs.Steps.{answers_of}
use Rattle.dp_reach.specs.Bounds.{Obligations, obligations}
use Rattle.dp_closed.proofs.ClosedLemmas.{AreEntriesIn, has-more, has-none}
use Rattle.dp_closed.proofs.claim_check.Checker.has_order.Goals as goal

pub loop-number-preserved : goal.loop-number-preserved
loop-number-preserved g c = λ settings are rest.
    let owing : Obligations = obligations g.T.Functions.Functions.table g.T.DutyTable.duties in
    c.loop-number.invariant settings are
    (has-more (AreEntriesIn owing (kept_claim c.args.self.claim settings) (answers_of c.args.self) (shown_area c.args.area.now)) c.args.order.now c.loop-number.number-index 0
    c.loop-number-test.true (c.in_ok-has_entries.ensures c.if-not-branch.false settings are) rest)

pub returns : goal.returns
returns g c = λ yes settings are id searched.
    let owing : Obligations = obligations g.T.Functions.Functions.table g.T.DutyTable.duties in
    c.loop-number.invariant settings are
    (has-none (AreEntriesIn owing (kept_claim c.args.self.claim settings) (answers_of c.args.self) (shown_area c.args.area.now)) c.args.order.now c.loop-number.number-index
    c.loop-number-test.false) id.context searched id.entry
