use Rattle.dp_graph.specs.Boxes.{box_at}
use Rattle.dp_graph.specs.Printing.{box_text}
use Rattle.dp_graph.specs.Shading.{shading_now}
use Rattle.dp_graph.proofs.RangeLemmas.{more_items}
use Rattle.dp_graph.proofs.boxes.push_boxes.Goals as goal

pub loop-number-preserved : goal.loop-number-preserved
loop-number-preserved c =
    more_items box_text c.loop-number.number c.args.out.now.items c.loop-number.out.items c.push_box.new.out.items
    (box_at c.args.plan.now (shading_now c.args.shading)) c.loop-number.invariant c.in_ok-push_box.ensures
