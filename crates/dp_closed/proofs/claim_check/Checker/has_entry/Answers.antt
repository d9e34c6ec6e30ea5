use Rattle.std.proofs.Common.{◌≡◌, IsTrue, Some}
use Rattle.std.proofs.lemmas.Option.{MatchOption-at_none, MatchOption-at_some}
use Rattle.std.proofs.lemmas.Result.{IfOk-weaker}
use Rattle.dp_closed.specs.Claimed.{kept_claim}
use Rattle.dp_closed.specs.Found.{IsMeeting}
use Rattle.dp_closed.specs.Shown.{shown_area}
use Rattle.dp_closed.specs.Steps.{Closes, IsEntryIn, answers_of}
use Rattle.dp_plan.specs.Lookup.{entry_at}
use Rattle.dp_reach.specs.Areas.{Area}
use Rattle.dp_reach.specs.Closed.{IsEntry}
use Rattle.dp_reach.specs.Bounds.{Obligations, obligations}
use Rattle.dp_closed.proofs.ClosedLemmas.{found-entry, not_in_context}
use Rattle.dp_closed.proofs.claim_check.Checker.has_entry.Goals as goal

pub returns-in_default : goal.returns-in_default
returns-in_default g c = λ yes there area met same settings are entry may.
    absurd (not_in_context c.args.self.claim.plan.now area.context area.exten c.args.id c.args.entry.now entry c.entries_at-entries.result.now there c.entries_at-entries.ensures
    (MatchOption-at_none _ _ c.in_default.is (c.found_area.ensures area met same)) may)

pub returns : goal.returns
returns g c =
    let owing : Obligations = obligations g.T.Functions.Functions.table g.T.DutyTable.duties in
    IfOk-weaker c.has_met.result
    (λ yes. IsTrue yes → Closes c.args.self (λ claim answers. IsEntry owing claim answers (shown_area c.in-Some.met.now) c.args.id c.args.entry.now))
    (λ yes. IsTrue yes → entry_at c.args.self.claim.plan.now c.args.id ≡ Some c.args.entry.now → (area : Area) → IsMeeting area c.args.meeting.now
    → c.args.entry.now.name ≡ c.args.meeting.now.name.now → Closes c.args.self (λ claim answers. IsEntryIn owing claim answers area c.args.id))
    (λ yes closed is there area met same settings are.
    found-entry owing (kept_claim c.args.self.claim settings) (answers_of c.args.self) area (shown_area c.in-Some.met.now) c.args.id c.args.entry.now there
    (MatchOption-at_some _ _ c.in-Some.met c.in-Some.is (c.found_area.ensures area met same)) (closed is settings are))
    c.has_met.ensures
