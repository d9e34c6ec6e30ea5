-- What always holds of the waiting lists, the members and the agents.
use Rattle.std.specs.Prelude.{◌≡◌, ◌≢◌, ℕ, ◌≤◌, ◌<◌, true, List, length, Some, None}
use Rattle.std.specs.List.{All, AllPairs}
use Rattle.dp_queue.specs.Agents.{state_at, talks_with}
use Rattle.dp_queue.specs.Joining.{waits_in, times_waiting}
use Rattle.dp_queue.specs.Queues.{QueueOf, QueuesOf}
use Rattle.dp_queue.specs.declared.agent.Agent.{Agent}
use Rattle.dp_queue.specs.declared.agent.AgentState.{AgentState}
use Rattle.dp_queue.specs.declared.agent.AgentState.TheVariants.{Idle, Ringing, Talking}
use Rattle.dp_queue.specs.declared.member.Member.{Member}

-- the channel for which an agent rings waits in the queue of the agent's state, and a channel with which it talks waits nowhere
abbrev pub IsRight : List QueueOf → AgentState → Type 0
IsRight queues Idle = Unit {0}
IsRight queues (Ringing queue channel) = waits_in queues channel ≡ Some queue
IsRight queues (Talking queue channel) = (waits_in queues channel ≡ None) × (queue < length queues)

-- the members are all among this many agents
abbrev pub AreKnown : ℕ → List Member → Type 0
AreKnown count members = All (λ member. member.agent < count) members

-- no two members are the same agent
abbrev pub StandOnce : List Member → Type 0
StandOnce members = AllPairs (λ member other. member.agent ≢ other.agent) members

-- each member is one of the agents, no agent is a member of a queue twice, and no two agents have the same name
pub record AreMembers (queues : List QueueOf) (agents : List Agent) : Type 0 where
  pub are_agents : All (λ queue. AreKnown (length agents) queue.members) queues
  pub stand_once : All (λ queue. StandOnce queue.members) queues
  pub names_differ : AllPairs (λ agent other. agent.name ≢ other.name) agents

-- each channel waits at most once, each agent is right, no two agents talk with the same channel, and the members are agents
pub record AreLinked (queues : List QueueOf) (agents : List Agent) : Type 0 where
  pub waits_once : (c : ℕ) → times_waiting queues c ≤ 1
  pub rings_right : (a : ℕ) → IsRight queues (state_at agents a)
  pub talks_once : (a b c : ℕ) → talks_with c (state_at agents a) ≡ true → talks_with c (state_at agents b) ≡ true → a ≡ b
  pub members : AreMembers queues agents

-- the queues and the agents are linked
abbrev pub IsGood : QueuesOf → Type 0
IsGood q = AreLinked q.queues q.agents
