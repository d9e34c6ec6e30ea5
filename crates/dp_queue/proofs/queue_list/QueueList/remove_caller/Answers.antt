use Rattle.std.proofs.Common.{refl, ap, length, arith}
use Rattle.dp_queue.specs.Joining.{times_waiting, without_caller}
use Rattle.dp_queue.proofs.WordLemmas.{worded-changed}
use Rattle.dp_queue.proofs.queue_list.QueueList.remove_caller.Goals as goal

pub remove_caller_at-requires-clause-within : goal.remove_caller_at-requires-clause-within
remove_caller_at-requires-clause-within c = omega (arith, c.requires.within, ap length c.self.view_is, c.self.inside.list.ok)

pub remove_caller_at-requires-clause-once : goal.remove_caller_at-requires-clause-once
remove_caller_at-requires-clause-once c = omega (arith, c.requires.once, ap (λ qs. times_waiting qs c.args.channel) c.self.view_is)

pub invariant_of-self : goal.invariant_of-self
invariant_of-self c =
    worded-changed c.self.inside.places (without_caller c.args.channel) c.args.number c.self.inside.list.items c.remove_caller_at.new.queues.items (λ q. refl)
    c.remove_caller_at.ensures c.self.invariant
