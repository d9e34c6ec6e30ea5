use Rattle.dp_audit.proofs.CandidatesOrder.{ranked_only}
use Rattle.dp_graph.proofs.extensions.ranked_of.Goals as goal

pub returns : goal.returns
returns c = ranked_only c.args.plan.now c.show_entries_known.ensures.apart c.args.number c.ranked_at.result.now c.ranked_at.ensures
