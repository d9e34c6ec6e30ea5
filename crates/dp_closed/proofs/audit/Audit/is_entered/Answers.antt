use Rattle.std.proofs.Common.{IsTrue}
use Rattle.std.specs.List.{AllByRecursion}
use Rattle.std.proofs.lemmas.Result.{IfOk-weaker}
use Rattle.dp_pieces.specs.Tables.{names_in}
use Rattle.dp_reach.specs.Audits.{IsGlobalWithin}
use Rattle.dp_reach.specs.Bounds.{Obligations, obligations}
use Rattle.dp_closed.specs.Steps.{IsEntered}
use Rattle.dp_closed.proofs.audit.Audit.is_entered.Goals as goal

pub returns : goal.returns
returns g c =
    let owing : Obligations = obligations g.T.Functions.Functions.table g.T.DutyTable.duties in
    IfOk-weaker c.has_globals.result
    (λ yes. IsTrue yes → AllByRecursion (IsGlobalWithin owing (names_in c.args.self.wide.names.now)) c.args.self.wide.plan.now.globals)
    (λ yes. IsTrue yes → IsEntered owing c.args.self)
    (λ yes held is. record {
      calls = c.in_ok-has_calls.ensures c.if-not-branch.false;
      call = c.in_ok-has_entrance.ensures c.if-not-branch-2.false;
      held = c.has_facts.ensures c.if-not-has_facts.false;
      globals = held is;
    }) c.has_globals.ensures
