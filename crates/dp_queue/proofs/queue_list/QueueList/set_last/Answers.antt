use Rattle.std.proofs.Common.{refl, ap, length, arith}
use Rattle.dp_queue.specs.Choices.{with_last}
use Rattle.dp_queue.proofs.WordLemmas.{worded-changed}
use Rattle.dp_queue.proofs.queue_list.QueueList.set_last.Goals as goal

pub set_last_at-requires : goal.set_last_at-requires
set_last_at-requires c = omega (arith, c.requires, ap length c.self.view_is, c.self.inside.list.ok)

pub invariant_of-self : goal.invariant_of-self
invariant_of-self c =
    worded-changed c.self.inside.places (with_last c.args.last) c.args.number c.self.inside.list.items c.set_last_at.new.queues.items (λ q. refl)
    c.set_last_at.ensures c.self.invariant
