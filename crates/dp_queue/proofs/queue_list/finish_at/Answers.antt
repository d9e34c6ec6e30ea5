use Rattle.std.proofs.Common.{◌<◌, length, arith}
use Rattle.dp_queue.specs.Calls.{finished_queue}
use Rattle.dp_conf.proofs.ChangesLemmas.{changed_at-set}
use Rattle.dp_queue.proofs.queue_list.finish_at.Goals as goal

pub returns : goal.returns
returns c =
    let within : c.args.number < length c.args.queues.now.items = omega (arith, c.requires, c.args.queues.now.ok) in
    changed_at-set (finished_queue c.args.agent c.args.count) c.args.number c.args.queues.now.items c.index_mut-queue.result.now c.finish.new.self within
    c.index_mut-queue.ensures.value c.finish.ensures
