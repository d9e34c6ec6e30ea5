-- The agents of all queues, and the state of each.
use Rattle.std.specs.Prelude.{◌≡◌, ◌≢◌, ℕ, Bool, true, false, ◌==◌, List, Option, length, map, slice_get, if◌then◌else◌}
use Rattle.std.specs.BTreeMap.{BTreeMap, get_by}
use Rattle.std.specs.Cmp.Lexicographic.{slice_cmp}
use Rattle.std.specs.Global.{Vec}
use Rattle.std.specs.List.{AllPairs, list_any, position}
use Rattle.std.specs.Option.{option_map, unwrap_or}
use Rattle.std.specs.Ordering.{nat_cmp}
use Rattle.dp_conf.specs.Words.{same_text}
use Rattle.dp_queue.specs.declared.agent.Agent.{Agent}
use Rattle.dp_queue.specs.declared.agent.AgentState.{AgentState}
use Rattle.dp_queue.specs.declared.agent.AgentState.TheVariants.{Idle, Ringing, Talking}
use Rattle.dp_conf.specs.Changes.{changed_at}

-- the agent has this name
abbrev pub is_named : List ℕ → Agent → Bool
is_named name agent = same_text agent.name name

-- the number of the agent with a name, or the next number if there is none
abbrev pub agent_number : List Agent → List ℕ → ℕ
agent_number agents name = unwrap_or (position (is_named name) agents) (length agents)

-- the names of the agents
abbrev pub names_of : List Agent → List (List ℕ)
names_of agents = map (λ agent. agent.name) agents

-- the number at a name in a map
abbrev pub number_at : BTreeMap (Vec ℕ) ℕ → List ℕ → Option ℕ
number_at numbers name = get_by (λ key. slice_cmp nat_cmp name key.items) numbers

-- the map has at each name the number of the agent with that name, and no two agents have the same name
abbrev pub AreNumbered : BTreeMap (Vec ℕ) ℕ → List Agent → Type 0
AreNumbered numbers agents =
    ((name : List ℕ) → number_at numbers name ≡ position (is_named name) agents) × AllPairs (λ name other. name ≢ other) (names_of agents)

-- the state of the agent with a number; an unknown agent is idle
abbrev pub state_at : List Agent → ℕ → AgentState
state_at agents number = unwrap_or (option_map (λ agent. agent.state) (slice_get agents number)) Idle

-- the state of an idle agent
abbrev pub is_idle : AgentState → Bool
is_idle Idle = true
is_idle (Ringing queue channel) = false
is_idle (Talking queue channel) = false

-- the state of an agent that rings for the channel
abbrev pub rings_for : ℕ → AgentState → Bool
rings_for c Idle = false
rings_for c (Ringing queue channel) = channel == c
rings_for c (Talking queue channel) = false

-- the state of an agent that talks with the channel
abbrev pub talks_with : ℕ → AgentState → Bool
talks_with c Idle = false
talks_with c (Ringing queue channel) = false
talks_with c (Talking queue channel) = channel == c

-- some agent rings for the channel
abbrev pub is_rung : List Agent → ℕ → Bool
is_rung agents c = list_any (λ agent. rings_for c agent.state) agents

-- some agent talks with the channel
abbrev pub is_talking : List Agent → ℕ → Bool
is_talking agents c = list_any (λ agent. talks_with c agent.state) agents

-- the number of the agent that talks with the channel, or the next number if there is none
abbrev pub talker : List Agent → ℕ → ℕ
talker agents c = unwrap_or (position (λ agent. talks_with c agent.state) agents) (length agents)

-- the agent in another state
abbrev pub with_state : AgentState → Agent → Agent
with_state state agent = record agent { state = state }

-- the agents with another state for the one with a number
abbrev pub with_state_at : ℕ → AgentState → List Agent → List Agent
with_state_at number state agents = changed_at (with_state state) number agents

-- the state of an agent after the channel no longer waits
abbrev pub freed_state : ℕ → AgentState → AgentState
freed_state c state = if rings_for c state then Idle else state

-- the agent, idle if it rang for the channel
abbrev pub idle_if_ringing : ℕ → Agent → Agent
idle_if_ringing c agent = with_state (freed_state c agent.state) agent

-- the agents, where those that ring for the channel become idle
abbrev pub all_freed : ℕ → List Agent → List Agent
all_freed c agents = map (idle_if_ringing c) agents
