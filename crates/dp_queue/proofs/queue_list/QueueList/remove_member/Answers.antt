use Rattle.std.proofs.Common.{refl, ap, length, arith}
use Rattle.dp_queue.specs.Members.{without_member}
use Rattle.dp_queue.proofs.WordLemmas.{worded-changed}
use Rattle.dp_queue.proofs.queue_list.QueueList.remove_member.Goals as goal

pub remove_member_at-requires : goal.remove_member_at-requires
remove_member_at-requires c = omega (arith, c.requires, ap length c.self.view_is, c.self.inside.list.ok)

pub invariant_of-self : goal.invariant_of-self
invariant_of-self c =
    worded-changed c.self.inside.places (without_member c.args.agent) c.args.number c.self.inside.list.items c.remove_member_at.new.queues.items (λ q. refl)
    c.remove_member_at.ensures c.self.invariant
