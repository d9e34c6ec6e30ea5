-- The members of a queue: how they are added, removed and paused.
use Rattle.std.specs.Prelude.{ℕ, Bool, true, false, not, ◌==◌, List, [], ◌∷◌, ◌++◌, map, length, nat_lt, Option, Some, None, slice_get, if◌then◌else◌}
use Rattle.std.specs.List.{list_any, find}
use Rattle.std.specs.Option.{option_map, unwrap_or}
use Rattle.dp_queue.specs.Agents.{agent_number}
use Rattle.dp_conf.specs.Changes.{changed_at}
use Rattle.dp_queue.specs.Changes.{without}
use Rattle.dp_queue.specs.Queues.{QueueOf, QueuesOf, queue_number}
use Rattle.dp_queue.specs.declared.agent.Agent.{Agent}
use Rattle.dp_queue.specs.declared.agent.AgentState.TheVariants.{Idle}
use Rattle.dp_queue.specs.declared.change.Added.{Added}
use Rattle.dp_queue.specs.declared.change.Added.TheVariants.{NoSuchQueue, MemberAlready, Added as added}
use Rattle.dp_queue.specs.declared.change.Removed.{Removed}
use Rattle.dp_queue.specs.declared.change.Removed.TheVariants.{NoSuchQueue as no_queue, NotInQueue, NotDynamic, Removed as removed}
use Rattle.dp_queue.specs.declared.member.Member.{Member}

-- the member is this agent
abbrev pub is_agent : ℕ → Member → Bool
is_agent agent member = member.agent == agent

-- some member is not paused
abbrev pub has_active : List Member → Bool
has_active members = list_any (λ member. not member.is_paused) members

-- some member is this agent
abbrev pub has_member : ℕ → QueueOf → Bool
has_member a queue = list_any (is_agent a) queue.members

-- a member that has not finished a call
abbrev pub new_member : ℕ → ℕ → Bool → Member
new_member a penalty is_dynamic =
    record { agent = a; penalty = penalty; is_paused = false; is_dynamic = is_dynamic; calls = 0; last = 0 }

-- the queue with one more member
abbrev pub with_member : Member → QueueOf → QueueOf
with_member member queue = record queue { members = queue.members ++ member ∷ [] }

-- the agents with the one of this name among them, added at the end and idle if it is new
abbrev pub with_agent : List Agent → List ℕ → List Agent
with_agent agents name =
    if nat_lt (agent_number agents name) (length agents) then agents else agents ++ (record { name = name; state = Idle }) ∷ []

-- the agent with the name becomes the last member of the queue with a number
abbrev pub with_member_at : QueuesOf → ℕ → List ℕ → ℕ → Bool → QueuesOf
with_member_at q number name penalty is_dynamic = record q {
  queues = changed_at (with_member (new_member (agent_number q.agents name) penalty is_dynamic)) number q.queues;
  agents = with_agent q.agents name;
}

-- the agent with a number is a member of the queue with a number
abbrev pub is_member_at : List QueueOf → ℕ → ℕ → Bool
is_member_at queues number a = unwrap_or (option_map (has_member a) (slice_get queues number)) false

-- an application adds a member to the queue with a number
abbrev pub add_row_at : QueuesOf → Option ℕ → List ℕ → ℕ → QueuesOf × Added
add_row_at q None name penalty = (q, NoSuchQueue)
add_row_at q (Some number) name penalty =
    if is_member_at q.queues number (agent_number q.agents name) then (q, MemberAlready)
    else (with_member_at q number name penalty true, added)

-- an application adds a member to the queue with a name
abbrev pub add_row : QueuesOf → List ℕ → List ℕ → ℕ → QueuesOf × Added
add_row q queue name penalty = add_row_at q (queue_number q.queues queue) name penalty

-- the queue without the member
abbrev pub without_member : ℕ → QueueOf → QueueOf
without_member a queue = record queue { members = without (is_agent a) queue.members }

-- an application removes a member of the queue with a number, if there is one
abbrev pub remove_row_in : QueuesOf → ℕ → ℕ → Option Member → QueuesOf × Removed
remove_row_in q number a None = (q, NotInQueue)
remove_row_in q number a (Some member) =
    if member.is_dynamic then (record q { queues = changed_at (without_member a) number q.queues }, removed) else (q, NotDynamic)

-- the member of a queue that is this agent
abbrev pub member_of : ℕ → Option QueueOf → Option Member
member_of a None = None
member_of a (Some queue) = find (is_agent a) queue.members

-- an application removes a member of the queue with a number
abbrev pub remove_row_at : QueuesOf → Option ℕ → ℕ → QueuesOf × Removed
remove_row_at q None a = (q, no_queue)
remove_row_at q (Some number) a = remove_row_in q number a (member_of a (slice_get q.queues number))

-- an application removes a member of the queue with a name
abbrev pub remove_row : QueuesOf → List ℕ → List ℕ → QueuesOf × Removed
remove_row q queue name = remove_row_at q (queue_number q.queues queue) (agent_number q.agents name)

-- the member, paused or unpaused if it is the agent
abbrev pub paused_member : ℕ → Bool → Member → Member
paused_member a is_paused member = record member { is_paused = if is_agent a member then is_paused else member.is_paused }

-- the queue with the member paused or unpaused
abbrev pub paused_queue : ℕ → Bool → QueueOf → QueueOf
paused_queue a is_paused queue = record queue { members = map (paused_member a is_paused) queue.members }

-- a member is paused in the queue with a number
abbrev pub pause_row_at : QueuesOf → Option ℕ → ℕ → Bool → QueuesOf × Bool
pause_row_at q None a is_paused = (q, false)
pause_row_at q (Some number) a is_paused =
    (record q { queues = changed_at (paused_queue a is_paused) number q.queues }, is_member_at q.queues number a)

-- a member is paused in the queue with a name, or in all queues, and whether there is such a member
abbrev pub pause_row : QueuesOf → Option (List ℕ) → List ℕ → Bool → QueuesOf × Bool
pause_row q None name is_paused =
    (record q { queues = map (paused_queue (agent_number q.agents name) is_paused) q.queues }, list_any (has_member (agent_number q.agents name)) q.queues)
pause_row q (Some queue) name is_paused = pause_row_at q (queue_number q.queues queue) (agent_number q.agents name) is_paused
