use Rattle.std.proofs.Common.{◌≡◌, ◌<◌, Some, refl, length, slice_get, arith}
use Rattle.std.proofs.lemmas.Option.{slice_get_read}
use Rattle.dp_queue.specs.Joining.{without_caller}
use Rattle.dp_conf.proofs.ChangesLemmas.{changed_at-set}
use Rattle.dp_queue.proofs.StandsLemmas.{times-of}
use Rattle.dp_queue.proofs.queue_list.remove_caller_at.Goals as goal

pub remove_caller-requires : goal.remove_caller-requires
remove_caller-requires c =
    let items = c.args.queues.now.items in
    let q = c.index_mut-queue.result.now in
    let here : slice_get items c.args.number ≡ Some q =
    slice_get_read items (length items) c.args.number q refl (omega (arith, c.requires.within, c.args.queues.now.ok)) c.index_mut-queue.ensures.value in
    omega (arith, times-of items c.args.channel c.args.number q here, c.requires.once)

pub returns : goal.returns
returns c =
    let within : c.args.number < length c.args.queues.now.items = omega (arith, c.requires.within, c.args.queues.now.ok) in
    changed_at-set (without_caller c.args.channel) c.args.number c.args.queues.now.items c.index_mut-queue.result.now
    c.remove_caller.new.self within c.index_mut-queue.ensures.value c.remove_caller.ensures
