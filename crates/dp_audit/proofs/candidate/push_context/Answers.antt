use Rattle.std.proofs.Common.{◌≡◌, ◌++◌, List, OnOk, subst}
use Rattle.dp_plan.specs.declared.entry.EntryId.{EntryId}
use Rattle.dp_audit.specs.Candidates.{matching_in}
use Rattle.dp_audit.proofs.CandidatesOrder.{ranked_only}
use Rattle.dp_audit.proofs.candidate.push_context.Goals as goal

-- the ranked entries are those of the definition
pub returns : goal.returns
returns c =
    subst (λ (ids : List EntryId). OnOk c.push_matching.result (c.push_matching.new.list.items ≡ c.args.list.now.items ++ matching_in c.args.plan.now c.args.text.now c.args.priority ids))
    (ranked_only c.args.plan.now c.show_entries_known.ensures.apart c.args.number c.ranked_at.result.now c.ranked_at.ensures)
    c.push_matching.ensures
