use Rattle.std.proofs.Common.{◌++◌, ◌∙◌, ap}
use Rattle.dp_plan.specs.Plan.{PlanOf}
use Rattle.dp_graph.specs.Picture.{context_arrows}
use Rattle.dp_graph.specs.Printing.{arrow_text, arrows_text}
use Rattle.dp_graph.proofs.RangeLemmas.{more_lists}
use Rattle.dp_graph.proofs.arrows.push_arrows.Goals as goal

pub loop-number-preserved : goal.loop-number-preserved
loop-number-preserved c = record {
  added =
      more_lists arrow_text c.loop-number.number c.args.out.now.items c.loop-number.out.items c.push_context.new.out.items
      (context_arrows c.args.finder.now c.args.exits.now) c.loop-number.invariant.added
      (c.in_ok-push_context.ensures.arrows
      ∙ ap (λ (plan : PlanOf). c.loop-number.out.items ++ arrows_text (context_arrows plan c.args.exits.now c.loop-number.number)) c.loop-number.invariant.same);
  same = c.push_context.ensures.same ∙ c.loop-number.invariant.same;
}
