use Rattle.std.proofs.Common.{◌≤◌, IfSome, List, Option, length, subst, sym}
use Rattle.dp_plan.specs.declared.entry.Entry.{Entry}
use Rattle.dp_closed.specs.Claimed.{kept_claim}
use Rattle.dp_closed.specs.Found.{IsMeeting, IsUnmatched}
use Rattle.dp_closed.specs.Shown.{shown_area}
use Rattle.dp_closed.specs.Steps.{Closes, IsEntryIn, answers_of}
use Rattle.dp_closed.specs.declared.finding.Meeting.{Meeting}
use Rattle.dp_reach.specs.Bounds.{Obligations, obligations}
use Rattle.dp_closed.proofs.ClosedLemmas.{below-more, none-behind, there-in, not_in_context}
use Rattle.dp_closed.proofs.FoundLemmas.{unmatched-unfound}
use Rattle.dp_closed.proofs.claim_check.Checker.has_entries.Goals as goal

pub loop-place-preserved : goal.loop-place-preserved
loop-place-preserved g c =
    let owing : Obligations = obligations g.T.Functions.Functions.table g.T.DutyTable.duties in
    let met = c.in_ok-meeting.ensures c.loop-place.invariant.met in
    record {
      met = met.0;
      closed = below-more (λ k. Closes c.args.self (λ claim answers. IsEntryIn owing claim answers (shown_area c.args.area.now) (record { context = c.args.number; entry = k }))) c.loop-place.place
          c.loop-place.invariant.closed
          (c.in_ok-has_entry.ensures c.if-not-branch.false
          (there-in c.args.self.claim.plan.now c.args.number c.loop-place.place c.index-entries-place.result c.entries_at-entries.result.now c.entries_at-entries.ensures
          c.loop-place-test.true c.index-entries-place.is)
          (shown_area c.args.area.now) met.0 (sym met.1));
    }

pub loop-place-preserved-then-is_excluded : goal.loop-place-preserved-then-is_excluded
loop-place-preserved-then-is_excluded g c =
    let owing : Obligations = obligations g.T.Functions.Functions.table g.T.DutyTable.duties in
    let area = shown_area c.args.area.now in
    let entry = c.index-entries-place.result in
    let unmatched : IsUnmatched area.exten entry.name =
    c.is_excluded.ensures c.if-is_excluded.true area (subst (λ (before : Option Meeting). IfSome before (IsMeeting area)) (sym c.as_ref.ensures.value) c.loop-place.invariant.met) in
    record {
      met = c.loop-place.invariant.met;
      closed = below-more (λ k. Closes c.args.self (λ claim answers. IsEntryIn owing claim answers area (record { context = c.args.number; entry = k }))) c.loop-place.place
          c.loop-place.invariant.closed (λ settings are other may. absurd (
          not_in_context c.args.self.claim.plan.now area.context area.exten (record { context = c.args.number; entry = c.loop-place.place }) entry other c.entries_at-entries.result.now
          (there-in c.args.self.claim.plan.now c.args.number c.loop-place.place entry c.entries_at-entries.result.now c.entries_at-entries.ensures
          c.loop-place-test.true c.index-entries-place.is) c.entries_at-entries.ensures (unmatched-unfound c.entries_at-entries.result.now entry area.exten unmatched) may));
    }

pub returns : goal.returns
returns g c = λ yes settings are.
    let owing : Obligations = obligations g.T.Functions.Functions.table g.T.DutyTable.duties in
    none-behind owing (kept_claim c.args.self.claim settings) (answers_of c.args.self) (shown_area c.args.area.now) c.args.number c.loop-place.place
    (subst (λ (es : List Entry). length es ≤ c.loop-place.place) c.entries_at-entries.ensures c.loop-place-test.false)
    (λ k below. c.loop-place.invariant.closed k below settings are)
