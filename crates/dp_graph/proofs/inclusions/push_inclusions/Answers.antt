use Rattle.dp_graph.specs.Picture.{inclusions_at}
use Rattle.dp_graph.specs.Printing.{inclusion_text}
use Rattle.dp_graph.proofs.RangeLemmas.{more_lists}
use Rattle.dp_graph.proofs.inclusions.push_inclusions.Goals as goal

pub loop-number-preserved : goal.loop-number-preserved
loop-number-preserved c =
    more_lists inclusion_text c.loop-number.number c.args.out.now.items c.loop-number.out.items c.push_all_at.new.out.items
    (inclusions_at c.args.plan.now) c.loop-number.invariant c.in_ok-push_all_at.ensures
