use Rattle.std.proofs.Common.{List, length, subst}
use Rattle.dp_plan.specs.declared.entry.Entry.{Entry}
use Rattle.dp_audit.specs.steps.Neighbours.{AreAfter}
use Rattle.dp_audit.proofs.NeighbourLemmas.{greater_at}
use Rattle.dp_audit.proofs.neighbours.greater_marks.Goals as goal

pub returns : goal.returns
returns c =
    greater_at c.args.plan.now c.args.number c.ranked_at.result.now c.in_ok-marks.marks.items c.show_entries_known.ensures.named c.ranked_at.ensures
    (subst (λ (entries : List Entry). AreAfter entries c.ranked_at.result.now 0 (length c.ranked_at.result.now) c.in_ok-marks.marks.items) c.entries_at.ensures c.in_ok-marks.ensures)
