use Rattle.std.proofs.Common.{refl, ap, length, arith}
use Rattle.dp_queue.specs.File.{with_queue_setting}
use Rattle.dp_queue.proofs.WordLemmas.{worded-changed}
use Rattle.dp_queue.proofs.queue_list.QueueList.set.Goals as goal

pub set_at-requires : goal.set_at-requires
set_at-requires c = omega (arith, c.requires, ap length c.self.view_is, c.self.inside.list.ok)

pub invariant_of-self : goal.invariant_of-self
invariant_of-self c =
    worded-changed c.self.inside.places (with_queue_setting c.args.setting) c.args.number c.self.inside.list.items c.set_at.new.queues.items (λ q. refl)
    c.set_at.ensures c.self.invariant
