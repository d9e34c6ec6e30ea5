use Rattle.std.proofs.Common.{◌<◌, length, arith}
use Rattle.dp_queue.specs.Joining.{with_caller}
use Rattle.dp_conf.proofs.ChangesLemmas.{changed_at-set}
use Rattle.dp_queue.proofs.ChangeLemmas.{on_ok}
use Rattle.dp_queue.proofs.queue_list.push_caller_at.Goals as goal

pub returns-clause-ok : goal.returns-clause-ok
returns-clause-ok c =
    let within : c.args.number < length c.args.queues.now.items = omega (arith, c.requires, c.args.queues.now.ok) in
    on_ok c.push_caller.result
    (λ added. changed_at-set (with_caller c.args.channel) c.args.number c.args.queues.now.items c.index_mut-queue.result.now
    c.push_caller.new.self within c.index_mut-queue.ensures.value added)
    c.push_caller.ensures.ok
