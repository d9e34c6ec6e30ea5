use Rattle.std.proofs.Common.{◌<◌, ◌≤◌, List, length, arith, subst}
use Rattle.std.specs.Global.{Vec}
use Rattle.std.proofs.lemmas.Option.{slice_get_within}
use Rattle.dp_closed.specs.Claimed.{kept_claim}
use Rattle.dp_closed.specs.Reach.{shapes_at}
use Rattle.dp_closed.specs.Steps.{Closes, answers_of}
use Rattle.dp_pieces.specs.Pieces.{exactly}
use Rattle.dp_pieces.specs.Shown.{shown_all}
use Rattle.dp_pieces.specs.declared.piece.Piece.{Piece}
use Rattle.dp_plan.specs.Contexts.{PlanContext}
use Rattle.dp_reach.specs.Areas.{area_at}
use Rattle.dp_reach.specs.Closed.{IsAreaClosed}
use Rattle.dp_reach.specs.Bounds.{Obligations, obligations}
use Rattle.dp_closed.proofs.ClosedLemmas.{all-areas, all-more}
use Rattle.dp_closed.proofs.claim_check.Checker.has_contexts.Goals as goal

pub returns : goal.returns
returns g c = λ yes settings are.
    let owing : Obligations = obligations g.T.Functions.Functions.table g.T.DutyTable.duties in
    let contexts = c.args.self.claim.plan.now.contexts in
    let shapes = c.args.self.claim.reach.now.shapes.items in
    all-areas (IsAreaClosed owing (kept_claim c.args.self.claim settings) (answers_of c.args.self)) contexts shapes (λ k context at.
    let within : k < length contexts = slice_get_within contexts k context at in
    let all : length contexts ≤ c.loop-number.number = subst (λ (cs : List PlanContext). length cs ≤ c.loop-number.number) c.contexts-context-items.ensures c.loop-number-test.false in
    all-more (λ (shape : Vec Piece). Closes c.args.self (λ claim answers. IsAreaClosed owing claim answers (area_at (exactly context.name) (shown_all shape.items))))
    (λ (shape : Vec Piece). IsAreaClosed owing (kept_claim c.args.self.claim settings) (answers_of c.args.self) (area_at (exactly context.name) (shown_all shape.items)))
    (shapes_at shapes k) (λ shape closed. closed settings are)
    (c.loop-number.invariant.closed k context (omega (arith, within, all)) at))
