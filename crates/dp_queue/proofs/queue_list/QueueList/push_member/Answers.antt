use Rattle.std.proofs.Common.{refl, ap, ◌∙◌, List, length, arith}
use Rattle.dp_queue.specs.Members.{is_member_at, with_member}
use Rattle.dp_queue.specs.Queues.{QueueOf}
use Rattle.dp_queue.proofs.WordLemmas.{worded-changed}
use Rattle.dp_queue.proofs.queue_list.QueueList.push_member.Goals as goal

pub push_member_at-requires-clause-within : goal.push_member_at-requires-clause-within
push_member_at-requires-clause-within c = omega (arith, c.requires.within, ap length c.self.view_is, c.self.inside.list.ok)

pub push_member_at-requires-clause-absent : goal.push_member_at-requires-clause-absent
push_member_at-requires-clause-absent c =
    ap (λ (queues : List QueueOf). is_member_at queues c.args.number c.args.member.agent) c.self.view_is ∙ c.requires.absent

pub invariant_of-self-2 : goal.invariant_of-self-2
invariant_of-self-2 c =
    worded-changed c.self.inside.places (with_member c.args.member) c.args.number c.self.inside.list.items c.push_member_at.new.queues.items (λ q. refl)
    c.in_ok-push_member_at.ensures.ok c.self.invariant
