use Rattle.std.proofs.Common.{refl, ap, length, arith}
use Rattle.dp_queue.specs.Members.{paused_queue}
use Rattle.dp_queue.proofs.WordLemmas.{worded-changed}
use Rattle.dp_queue.proofs.queue_list.QueueList.pause.Goals as goal

pub pause_at-requires : goal.pause_at-requires
pause_at-requires c = omega (arith, c.requires, ap length c.self.view_is, c.self.inside.list.ok)

pub invariant_of-self : goal.invariant_of-self
invariant_of-self c =
    worded-changed c.self.inside.places (paused_queue c.args.agent c.args.is_paused) c.args.number c.self.inside.list.items c.pause_at.new.queues.items (λ q. refl)
    c.pause_at.ensures c.self.invariant
