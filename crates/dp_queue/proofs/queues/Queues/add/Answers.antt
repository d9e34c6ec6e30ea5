use Rattle.std.proofs.Common.{◌≡◌, false, true, ◌∙◌, sym}
use Rattle.dp_queue.specs.Agents.{agent_number}
use Rattle.dp_queue.specs.Members.{is_member_at}
use Rattle.dp_queue.proofs.KeptLemmas.{kept-added}
use Rattle.dp_queue.proofs.queues.Queues.add.Goals as goal

pub invariant_of-self-2 : goal.invariant_of-self-2
invariant_of-self-2 c =
    let q = c.self.inside in
    let absent : is_member_at q.queues c.in-Some.number (agent_number q.agents c.args.interface.now) ≡ false =
    sym (c.is_member_at.ensures
    ∙ (λ i. is_member_at (c.list.ensures i) c.in-Some.number (c.number_of-agent.ensures i)))
    ∙ c.if-is_member_at.false in
    kept-added q.seats q.queues c.add_member.new.queues q.agents c.add_member.new.agents c.in-Some.number c.args.interface.now
    c.args.penalty true c.self.invariant absent c.in_ok-add_member.ensures.ok c.in_ok-add_member.ensures.agents
