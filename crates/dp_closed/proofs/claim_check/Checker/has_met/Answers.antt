use Rattle.std.proofs.Common.{◌≡◌, ℕ, IsTrue, List, ap, sym, ◌∙◌, subst}
use Rattle.std.proofs.lemmas.Result.{IfOk-weaker}
use Rattle.dp_closed.specs.Claimed.{AreWays, kept_claim}
use Rattle.dp_closed.specs.Owed.{Owes}
use Rattle.dp_closed.specs.Shown.{shown_area, shown_duties}
use Rattle.dp_closed.specs.Steps.{Closes}
use Rattle.dp_pieces.specs.Shown.{shown_all}
use Rattle.dp_pieces.specs.Tables.{names_by, names_in}
use Rattle.dp_pieces.specs.declared.piece.Piece.{Piece}
use Rattle.dp_queue.specs.declared.settings.Settings.{Settings}
use Rattle.dp_reach.specs.Areas.{names_at}
use Rattle.dp_reach.specs.Bounds.{Duty, MeetsAll, Obligations, obligations}
use Rattle.dp_reach.specs.Closed.{IsEntry}
use Rattle.dp_closed.proofs.claim_check.Checker.has_met.Goals as goal

pub returns : goal.returns
returns g c =
    let owing : Obligations = obligations g.T.Functions.Functions.table g.T.DutyTable.duties in
    let area = shown_area c.args.area.now in
    let entry = c.args.entry.now in
    let names = names_at (names_in c.args.self.claim.names.now) area in
    let list = shown_duties c.in_ok-owed.owed.items in
    let owes : Owes owing names area entry.application entry.arguments list =
    subst (λ (seen : (List Piece × List Piece) × (List ℕ × List ℕ)).
    Owes owing (names_by c.args.self.claim.names.now (shown_all seen.0.0) (shown_all seen.0.1)) area seen.1.0 seen.1.1 list)
    (λ i. ((c.deref.ensures.value i, c.deref-2.ensures.value i), (c.bytes.ensures i, c.bytes-2.ensures.value i))) c.in_ok-owed.ensures in
    IfOk-weaker c.meets_all.result
    (λ yes. IsTrue yes → (settings : List Settings) → AreWays settings c.args.self.claim.ways.now → MeetsAll (kept_claim c.args.self.claim settings) (shown_duties c.deref-3.result.now))
    (λ yes. IsTrue yes → Closes c.args.self (λ claim answers. IsEntry owing claim answers area c.args.id entry))
    (λ yes met is settings are. record {
      answer = sym c.is_answered.ensures ∙ c.if-not-is_answered.false;
      pieces = owes.pieces;
      fits = owes.fits;
      met = subst (λ (ds : List Duty). MeetsAll (kept_claim c.args.self.claim settings) ds) (ap shown_duties c.deref-3.ensures.value ∙ owes.same) (met is settings are);
    }) c.meets_all.ensures
