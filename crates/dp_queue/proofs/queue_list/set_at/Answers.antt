use Rattle.std.proofs.Common.{◌<◌, length, arith}
use Rattle.dp_queue.specs.File.{with_queue_setting}
use Rattle.dp_conf.proofs.ChangesLemmas.{changed_at-set}
use Rattle.dp_queue.proofs.queue_list.set_at.Goals as goal

pub returns : goal.returns
returns c =
    let within : c.args.number < length c.args.queues.now.items = omega (arith, c.requires, c.args.queues.now.ok) in
    changed_at-set (with_queue_setting c.args.setting) c.args.number c.args.queues.now.items c.index_mut-queue.result.now c.set.new.self within
    c.index_mut-queue.ensures.value c.set.ensures
