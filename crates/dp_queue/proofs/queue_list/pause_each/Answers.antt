use Rattle.std.proofs.Common.{ap, ◌∙◌, sym, set}
use Rattle.std.proofs.lemmas.List.Edits.{map_over_more}
use Rattle.dp_queue.specs.Members.{paused_queue}
use Rattle.dp_queue.proofs.queue_list.pause_each.Goals as goal

pub loop-queue-preserved : goal.loop-queue-preserved
loop-queue-preserved c =
    ap (set c.loop-queue.queues c.loop-queue.queue-index)
    (c.pause.ensures ∙ ap (paused_queue c.args.agent c.args.is_paused) (sym c.queue-item.is))
    ∙ map_over_more (paused_queue c.args.agent c.args.is_paused) c.args.queues.now c.loop-queue.queues c.loop-queue.queue-index
    c.queue-item.result c.loop-queue-test.true c.loop-queue.invariant c.queue-item.is
