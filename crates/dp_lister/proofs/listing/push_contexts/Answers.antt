use Rattle.dp_lister.proofs.SinkLemmas.{contexts-more}
use Rattle.dp_lister.proofs.listing.push_contexts.Goals as goal

pub loop-context-preserved : goal.loop-context-preserved
loop-context-preserved g c =
    contexts-more g.S.ListingSink.laws c.args.contexts.now c.loop-context.context-index c.context-item.result c.args.out.now c.loop-context.out c.push_context.new.out
    c.loop-context-test.true c.context-item.is c.loop-context.invariant c.push_context.ensures
