use Rattle.dp_graph.specs.Picture.{inclusion_at}
use Rattle.dp_graph.specs.Printing.{inclusion_text}
use Rattle.dp_graph.proofs.RangeLemmas.{more_items}
use Rattle.dp_graph.proofs.inclusions.push_all_at.Goals as goal

pub loop-index-preserved : goal.loop-index-preserved
loop-index-preserved c =
    more_items inclusion_text c.loop-index.index c.args.out.now.items c.loop-index.out.items c.push_at.new.out.items
    (inclusion_at c.args.plan.now c.args.number) c.loop-index.invariant c.in_ok-push_at.ensures
