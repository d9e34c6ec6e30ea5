use Rattle.std.proofs.Common.{◌≡◌, ◌<◌, List, length, get_or, subst}
use Rattle.dp_pieces.specs.Tables.{names_in}
use Rattle.dp_plan.specs.declared.plan.GlobalVariable.{GlobalVariable}
use Rattle.dp_reach.specs.Audits.{IsGlobalWithin}
use Rattle.dp_reach.specs.Bounds.{Obligations, obligations}
use Rattle.dp_closed.proofs.ClosedLemmas.{all-drop}
use Rattle.dp_closed.proofs.audit.Audit.has_globals.Goals as goal

pub loop-global-preserved : goal.loop-global-preserved
loop-global-preserved g c = λ rest.
    let owing : Obligations = obligations g.T.Functions.Functions.table g.T.DutyTable.duties in
    c.loop-global.invariant
    (all-drop (IsGlobalWithin owing (names_in c.args.self.wide.names.now)) c.args.self.wide.plan.now.globals c.loop-global.global-index c.global-item.result
    (subst (λ (xs : List GlobalVariable). c.loop-global.global-index < length xs) c.globals-global-items.ensures c.loop-global-test.true)
    (subst (λ (xs : List GlobalVariable). c.global-item.result ≡ get_or xs c.loop-global.global-index c.global-item.result) c.globals-global-items.ensures c.global-item.is)
    (c.in_ok-has_global.ensures c.if-not-branch.false) rest)
