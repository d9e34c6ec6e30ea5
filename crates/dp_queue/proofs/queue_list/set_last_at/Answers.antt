use Rattle.std.proofs.Common.{◌<◌, length, arith}
use Rattle.dp_queue.specs.Choices.{with_last}
use Rattle.dp_conf.proofs.ChangesLemmas.{changed_at-set}
use Rattle.dp_queue.proofs.queue_list.set_last_at.Goals as goal

pub returns : goal.returns
returns c =
    let within : c.args.number < length c.args.queues.now.items = omega (arith, c.requires, c.args.queues.now.ok) in
    changed_at-set (with_last c.args.last) c.args.number c.args.queues.now.items c.index_mut-queue.result.now c.set_last.new.self within
    c.index_mut-queue.ensures.value c.set_last.ensures
