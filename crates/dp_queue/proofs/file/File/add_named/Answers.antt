use Rattle.std.proofs.Common.{◌≡◌, ap, ◌∙◌, sym, length, Bool, true, false, ◌||◌, ◌==◌, List}
use Rattle.dp_queue.specs.Agents.{agent_number}
use Rattle.dp_queue.specs.File.{is_passed_over}
use Rattle.dp_queue.specs.Members.{is_member_at, new_member, with_member}
use Rattle.dp_queue.specs.Queues.{QueueOf, QueuesOf}
use Rattle.dp_queue.specs.declared.agent.Agent.{Agent}
use Rattle.dp_queue.proofs.ChangeLemmas.{length-changed_at}
use Rattle.dp_queue.proofs.MemberLemmas.{members-added}
use Rattle.dp_queue.proofs.RestLemmas.{within-same}
use Rattle.dp_queue.proofs.file.File.add_named.Goals as goal

-- if neither holds, the second does not hold
not_either : (a b : Bool) → (a || b) ≡ false → b ≡ false
not_either true b none = absurd (cc)
not_either false b none = none

pub invariant_of-self-2 : goal.invariant_of-self-2
invariant_of-self-2 c =
    let items = c.self.inside.queues in
    let agents = c.self.inside.agents in
    let name = c.args.name.now in
    let made : List QueueOf → List Agent → QueuesOf = λ queues known. record { queues = queues; agents = known; finished = 0 } in
    let absent : is_member_at items c.args.number (agent_number agents name) ≡ false =
    not_either (length name == 0) (is_member_at items c.args.number (agent_number agents name))
    (sym (c.is_passed_over.ensures ∙ (λ i. is_passed_over (made (c.list.ensures i) agents) c.args.number name)) ∙ c.if-is_passed_over.false) in (
      within-same c.self.inside.section (length items) (length c.add_member.new.queues)
          (ap length c.in_ok-add_member.ensures.ok
          ∙ length-changed_at (with_member (new_member (agent_number c.self.inside.agents c.args.name.now) c.args.penalty false)) c.args.number items)
          c.self.invariant.0,
      members-added items c.add_member.new.queues c.self.inside.agents c.add_member.new.agents c.args.number c.args.name.now c.args.penalty false
          absent c.in_ok-add_member.ensures.ok c.in_ok-add_member.ensures.agents c.self.invariant.1,
    )
