use Rattle.std.proofs.Common.{IsTrue, List}
use Rattle.std.specs.Prelude.{option_map}
use Rattle.std.proofs.lemmas.Result.{IfOk-weaker}
use Rattle.dp_app.specs.Rows.{with_functions}
use Rattle.dp_closed.specs.Answers.{answers_in, shown_outside}
use Rattle.dp_closed.specs.Claimed.{AreWays, kept_claim}
use Rattle.dp_queue.specs.declared.settings.Settings.{Settings}
use Rattle.dp_reach.specs.Audits.{RunsOnly}
use Rattle.dp_reach.specs.Bounds.{Obligations, obligations}
use Rattle.dp_reach.specs.Closed.{IsClosed}
use Rattle.dp_closed.proofs.AuditLemmas.{narrow_of, runs-entered}
use Rattle.dp_closed.proofs.audit.Audit.is_closed.Goals as goal

pub returns-clause-runs : goal.returns-clause-runs
returns-clause-runs g c =
    let owing : Obligations = obligations g.T.Functions.Functions.table g.T.DutyTable.duties in
    let audit = c.args.self in
    let answers = answers_in (option_map (λ marks. marks.now) c.args.answers) in
    IfOk-weaker c.is_closed-2.result
    (λ yes. IsTrue yes → (settings : List Settings) → AreWays settings audit.wide.ways.now → IsClosed owing (kept_claim (narrow_of audit) settings) answers)
    (λ yes. IsTrue yes → (settings : List Settings) → AreWays settings audit.wide.ways.now
    → RunsOnly (with_functions g.T.AppTable.rows g.T.Functions.Functions.table) (shown_outside audit.outside.now) audit.context.now audit.wide.plan.now settings answers)
    (λ yes closed is settings are.
    runs-entered g.T.AppTable.touches g.T.AppTable.rows g.T.AppTable.lawful owing g.met.T.DutyTable.bounded audit settings answers
    (c.in_ok-is_entered.ensures c.if-not-branch.false) (c.in_ok-is_closed.ensures c.if-not-branch-2.false settings are) (closed is settings are))
    c.is_closed-2.ensures
