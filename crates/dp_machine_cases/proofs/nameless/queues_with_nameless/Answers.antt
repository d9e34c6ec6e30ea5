-- Loaded queues are at rest, and so they are with one more member.
use Rattle.std.proofs.Common.{◌≡◌, ℕ, Bool, true, false, List, [], ◌∷◌, ◌++◌, Option, Some, None, refl, subst, length, nat_lt, if◌then◌else◌, codes}
use Rattle.std.proofs.lemmas.List.Elements.{All-push}
use Rattle.std.specs.List.{All}
use Rattle.dp_queue.specs.Agents.{agent_number}
use Rattle.dp_queue.specs.Members.{add_row, add_row_at, is_member_at, with_agent, with_member_at}
use Rattle.dp_queue.specs.Queues.{QueueOf, QueuesOf, queue_number}
use Rattle.dp_queue.specs.Rest.{IsAtRest}
use Rattle.dp_queue.specs.declared.agent.Agent.{Agent}
use Rattle.dp_queue.specs.declared.agent.AgentState.TheVariants.{Idle}
use Rattle.dp_queue.specs.declared.change.Added.{Added}
use Rattle.dp_queue.specs.declared.change.Added.TheVariants.{MemberAlready, Added as added}
use Rattle.dp_queue.proofs.ChangeLemmas.{all-changed_at}
use Rattle.dp_machine_cases.proofs.nameless.queues_with_nameless.Goals as goal

-- each agent is idle, and so is a new one
with_agent-idle : (agents : List Agent) (name : List ℕ) → All (λ agent. agent.state ≡ Idle) agents → All (λ agent. agent.state ≡ Idle) (with_agent agents name)
with_agent-idle agents name idle = by (nat_lt (agent_number agents name) (length agents))
  where
    by : (b : Bool) → All (λ agent. agent.state ≡ Idle) (if b then agents else agents ++ record { name = name; state = Idle } ∷ [])
    by true = idle
    by false = All-push (λ (agent : Agent). agent.state ≡ Idle) agents _ idle refl

-- a member that is added leaves the queues at rest
added-at_rest : (q : QueuesOf) (queue name : List ℕ) (penalty : ℕ) → IsAtRest q → IsAtRest (add_row q queue name penalty).0
added-at_rest q queue name penalty rest = by_number (queue_number q.queues queue)
  where
    by : (number : ℕ) (b : Bool)
        → IsAtRest (if◌then◌else◌ {A = QueuesOf × Added} b (q, MemberAlready) (with_member_at q number name penalty true, added)).0
    by number true = rest
    by number false = record {
      nobody_waits = all-changed_at (λ (queue : QueueOf). queue.waiting ≡ []) _ number q.queues (λ queue here none. none) rest.nobody_waits;
      all_idle = with_agent-idle q.agents name rest.all_idle;
    }

    by_number : (o : Option ℕ) → IsAtRest (add_row_at q o name penalty).0
    by_number None = rest
    by_number (Some number) = by number (is_member_at q.queues number (agent_number q.agents name))

pub returns : goal.returns
returns c = record {
  rest = subst (λ (told : QueuesOf × Added). IsAtRest told.0) c.in_ok-added.ensures.ok
      (added-at_rest c.in_ok-queues.queues (codes "q") [] 0 c.in_ok-queues.ensures.rest);
}
