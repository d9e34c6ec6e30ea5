use Rattle.std.proofs.Common.{◌≡◌, IsTrue, ℕ, List, ap, subst, sym, true}
use Rattle.std.proofs.lemmas.Result.{IfOk-weaker}
use Rattle.std.specs.Prelude.{codes}
use Rattle.dp_closed.specs.Claimed.{kept_claim}
use Rattle.dp_closed.specs.Reach.{areas_in}
use Rattle.dp_closed.specs.Shown.{shown_area}
use Rattle.dp_closed.specs.Steps.{Closes, IsEntryIn}
use Rattle.dp_lookup.specs.SearchOrder.{has, search_order}
use Rattle.dp_pieces.specs.Pieces.{PieceOf, exactly}
use Rattle.dp_pieces.specs.Shown.{shown_all}
use Rattle.dp_plan.specs.declared.entry.EntryId.{EntryId}
use Rattle.dp_reach.specs.Areas.{Area, Includes, area_at}
use Rattle.dp_reach.specs.Closed.{IsAreaClosed, IsNamed}
use Rattle.dp_reach.specs.Bounds.{Obligations, obligations}
use Rattle.dp_closed.proofs.ClosedLemmas.{searched-in}
use Rattle.dp_closed.proofs.claim_check.Checker.has_area.Goals as goal

pub returns : goal.returns
returns g c =
    let owing : Obligations = obligations g.T.Functions.Functions.table g.T.DutyTable.duties in
    let area = shown_area c.args.area.now in
    let plan = c.args.self.claim.plan.now in
    let reach = areas_in plan.contexts c.args.self.claim.reach.now.shapes.items in
    IfOk-weaker c.has_order.result
    (λ yes. IsTrue yes → Closes c.args.self (λ claim answers. (id : EntryId) → has c.args.order.now id.context ≡ true → IsEntryIn owing claim answers area id))
    (λ yes. IsTrue yes → (name : List ℕ) → area.context ≡ exactly name → c.args.order.now ≡ search_order plan name
    → Closes c.args.self (λ claim answers. IsAreaClosed owing claim answers area))
    (λ yes closed is name exact ordered settings are. record {
      named = subst (λ (a : Area). IsNamed (kept_claim c.args.self.claim settings) a)
          (λ i. area_at (shown_all (c.deref.ensures.value i)) (shown_all (c.deref-2.ensures.value i))) (c.is_area_named.ensures c.if-not-is_area_named.false settings);
      hang = subst (λ (ps : List PieceOf). Includes plan reach (area_at ps (exactly (codes "h")))) (ap shown_all c.deref-3.ensures.value) (c.in_ok-has_letter.ensures c.if-not-branch.false);
      invalid = subst (λ (ps : List PieceOf). Includes plan reach (area_at ps (exactly (codes "i")))) (ap shown_all c.deref-4.ensures.value) (c.in_ok-has_letter-2.ensures c.if-not-branch-2.false);
      entries = λ id entry may. closed is settings are id
          (subst (λ (order : List ℕ). has order id.context ≡ true) (sym ordered) (searched-in plan area name id entry exact may)) entry may;
    }) c.has_order.ensures
