use Rattle.std.proofs.Common.{refl, ap, ◌∙◌, length}
use Rattle.dp_queue.specs.Members.{without_member}
use Rattle.dp_queue.proofs.ChangeLemmas.{length-changed_at}
use Rattle.dp_queue.proofs.WaitingLemmas.{lines, lines-changed_at}
use Rattle.dp_queue.proofs.KeptLemmas.{kept-same}
use Rattle.dp_queue.proofs.MemberLemmas.{keeps-without, members-changed}
use Rattle.dp_queue.proofs.queues.Queues.remove.Goals as goal

pub invariant_of-self : goal.invariant_of-self
invariant_of-self c =
    let q = c.self.inside in
    let change = without_member c.number_of-agent.result in
    kept-same q.seats q.seats q.queues c.remove_member.new.self q.agents c.self.invariant
    (ap length c.remove_member.ensures ∙ length-changed_at change c.in-Some.number q.queues)
    (ap lines c.remove_member.ensures ∙ lines-changed_at change c.in-Some.number q.queues (λ _. refl))
    (members-changed change c.in-Some.number q.queues c.remove_member.new.self q.agents
    (keeps-without c.number_of-agent.result) c.remove_member.ensures c.self.invariant.0.members)
