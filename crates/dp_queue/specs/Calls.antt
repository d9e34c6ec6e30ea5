-- How agents answer, decline and end the calls that are offered to them.
use Rattle.std.specs.Prelude.{ℕ, Bool, true, false, List, map, Option, Some, None, if◌then◌else◌}
use Rattle.dp_queue.specs.Agents.{agent_number, talker, state_at, with_state_at}
use Rattle.dp_conf.specs.Changes.{changed_at}
use Rattle.dp_queue.specs.Changes.{one_more}
use Rattle.dp_queue.specs.Joining.{after_leaving}
use Rattle.dp_queue.specs.Members.{is_agent}
use Rattle.dp_queue.specs.Queues.{QueueOf, QueuesOf}
use Rattle.dp_queue.specs.declared.agent.AgentState.{AgentState}
use Rattle.dp_queue.specs.declared.agent.AgentState.TheVariants.{Idle, Ringing, Talking}
use Rattle.dp_queue.specs.declared.call.Call.{Call}
use Rattle.dp_queue.specs.declared.member.Member.{Member}

-- a call with these numbers
abbrev pub call_of : ℕ → ℕ → ℕ → Call
call_of queue agent channel = record { queue = queue; agent = agent; channel = channel }

-- the queues with the agent in another state
abbrev pub with_agent_state : QueuesOf → ℕ → AgentState → QueuesOf
with_agent_state q a state = record q { agents = with_state_at a state q.agents }

-- the agent and the channel talk: the channel leaves the waiting list, and the other agents that ring for it become idle
abbrev pub after_answer : QueuesOf → ℕ → ℕ → ℕ → QueuesOf
after_answer q a queue channel = with_agent_state (after_leaving q queue channel) a (Talking queue channel)

-- an agent in this state answers
abbrev pub answer_row_at : QueuesOf → ℕ → AgentState → QueuesOf × Option Call
answer_row_at q a Idle = (q, None)
answer_row_at q a (Ringing queue channel) = (after_answer q a queue channel, Some (call_of queue a channel))
answer_row_at q a (Talking queue channel) = (q, None)

-- the agent with a name answers the call for which it rings
abbrev pub answer_row : QueuesOf → List ℕ → QueuesOf × Option Call
answer_row q name = answer_row_at q (agent_number q.agents name) (state_at q.agents (agent_number q.agents name))

-- an agent in this state declines
abbrev pub decline_row_at : QueuesOf → ℕ → AgentState → QueuesOf × Bool
decline_row_at q a Idle = (q, false)
decline_row_at q a (Ringing queue channel) = (with_agent_state q a Idle, true)
decline_row_at q a (Talking queue channel) = (q, false)

-- the agent with a name declines the call for which it rings
abbrev pub decline_row : QueuesOf → List ℕ → QueuesOf × Bool
decline_row q name = decline_row_at q (agent_number q.agents name) (state_at q.agents (agent_number q.agents name))

-- the member, with one more call and the count of finished calls, if it is the agent
abbrev pub finished_member : ℕ → ℕ → Member → Member
finished_member a count member = if is_agent a member then record member { calls = one_more member.calls; last = count } else member

-- the queue after an agent's call ends: its member record, if it still exists, has one more call
abbrev pub finished_queue : ℕ → ℕ → QueueOf → QueueOf
finished_queue a count queue = record queue { members = map (finished_member a count) queue.members }

-- the talk of an agent ends: the agent becomes idle, and one more call is finished
abbrev pub after_talk : QueuesOf → ℕ → ℕ → QueuesOf
after_talk q a queue = record {
  queues = changed_at (finished_queue a (one_more q.finished)) queue q.queues;
  agents = with_state_at a Idle q.agents;
  finished = one_more q.finished;
}

-- the talk of an agent in this state ends
abbrev pub done_row_at : QueuesOf → ℕ → AgentState → QueuesOf × Option Call
done_row_at q a Idle = (q, None)
done_row_at q a (Ringing queue channel) = (q, None)
done_row_at q a (Talking queue channel) = (after_talk q a queue, Some (call_of queue a channel))

-- the agent with a name ends the call with which it talks
abbrev pub done_row : QueuesOf → List ℕ → QueuesOf × Option Call
done_row q name = done_row_at q (agent_number q.agents name) (state_at q.agents (agent_number q.agents name))

-- the talk of a channel ends
abbrev pub end_talk_row : QueuesOf → ℕ → QueuesOf × Option Call
end_talk_row q channel = done_row_at q (talker q.agents channel) (state_at q.agents (talker q.agents channel))
