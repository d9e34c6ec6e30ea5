use Rattle.std.proofs.Common.{refl, ap, length, arith}
use Rattle.dp_queue.specs.Joining.{with_caller}
use Rattle.dp_queue.proofs.WordLemmas.{worded-changed}
use Rattle.dp_queue.proofs.queue_list.QueueList.push_caller.Goals as goal

pub push_caller_at-requires : goal.push_caller_at-requires
push_caller_at-requires c = omega (arith, c.requires, ap length c.self.view_is, c.self.inside.list.ok)

pub invariant_of-self-2 : goal.invariant_of-self-2
invariant_of-self-2 c =
    worded-changed c.self.inside.places (with_caller c.args.channel) c.args.number c.self.inside.list.items c.push_caller_at.new.queues.items (λ q. refl)
    c.in_ok-push_caller_at.ensures.ok c.self.invariant
