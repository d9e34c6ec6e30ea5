use Rattle.std.proofs.Common.{refl, ap, length, arith}
use Rattle.dp_queue.specs.Calls.{finished_queue}
use Rattle.dp_queue.proofs.WordLemmas.{worded-changed}
use Rattle.dp_queue.proofs.queue_list.QueueList.finish.Goals as goal

pub finish_at-requires : goal.finish_at-requires
finish_at-requires c = omega (arith, c.requires, ap length c.self.view_is, c.self.inside.list.ok)

pub invariant_of-self : goal.invariant_of-self
invariant_of-self c =
    worded-changed c.self.inside.places (finished_queue c.args.agent c.args.count) c.args.number c.self.inside.list.items c.finish_at.new.queues.items (λ q. refl)
    c.finish_at.ensures c.self.invariant
