use Rattle.std.proofs.Common.{IsTrue, List}
use Rattle.std.specs.List.{AllByRecursion}
use Rattle.std.specs.Prelude.{option_map}
use Rattle.std.proofs.lemmas.Result.{IfOk-weaker}
use Rattle.dp_closed.specs.Answers.{answers_in}
use Rattle.dp_closed.specs.Claimed.{AreWays, kept_claim}
use Rattle.dp_queue.specs.declared.settings.Settings.{Settings}
use Rattle.dp_reach.specs.Closed.{IsAreaClosed, IsClosed}
use Rattle.dp_reach.specs.Bounds.{Obligations, obligations}
use Rattle.dp_closed.proofs.claim.KeptClaim.is_closed.Goals as goal

pub returns : goal.returns
returns g c =
    let owing : Obligations = obligations g.T.Functions.Functions.table g.T.DutyTable.duties in
    let answers = answers_in (option_map (λ marks. marks.now) c.args.answers) in
    IfOk-weaker c.has_contexts.result
    (λ yes. IsTrue yes → (settings : List Settings) → AreWays settings c.args.self.ways.now
    → AllByRecursion (IsAreaClosed owing (kept_claim c.args.self settings) answers) (kept_claim c.args.self settings).reach)
    (λ yes. IsTrue yes → (settings : List Settings) → AreWays settings c.args.self.ways.now → IsClosed owing (kept_claim c.args.self settings) answers)
    (λ yes closed is settings are. record { named = c.is_named.ensures c.if-not-is_named.false settings; areas = closed is settings are })
    c.has_contexts.ensures
