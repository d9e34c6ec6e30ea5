-- The call of a queue that is offered next, and the agents to which it is offered.
use Rattle.std.specs.Prelude.{ℕ, not, List, [], length, fold, Option, Some, None, Result, Ok, Err, slice_get}
use Rattle.std.specs.List.{find}
use Rattle.dp_queue.specs.Agents.{is_rung, with_state_at}
use Rattle.dp_conf.specs.Changes.{changed_at}
use Rattle.dp_queue.specs.Choices.{is_candidate, least_penalty, choices_of, last_after}
use Rattle.dp_queue.specs.Queues.{QueueOf, QueuesOf, queue_number}
use Rattle.dp_queue.specs.declared.agent.Agent.{Agent}
use Rattle.dp_queue.specs.declared.agent.AgentState.TheVariants.{Ringing}
use Rattle.dp_queue.specs.declared.member.Member.{Member}
use Rattle.dp_queue.specs.declared.offer.OfferRequest.{OfferRequest}
use Rattle.dp_queue.specs.declared.offer.Offered.{Offered}
use Rattle.dp_queue.specs.declared.fault.OfferFault.{OfferFault}
use Rattle.dp_queue.specs.declared.fault.OfferFault.TheVariants.{NoQueue, NobodyWaiting, NoMember}

-- the request: agents for a channel, with the smallest penalty of the members that an offer may ring
abbrev pub asked_for : ℕ → ℕ → Option ℕ → Result OfferRequest OfferFault
asked_for queue channel None = Err NoMember
asked_for queue channel (Some penalty) = Ok (record { queue = queue; channel = channel; penalty = penalty })

-- the same, given the first channel of a queue for which no agent rings
abbrev pub asked_by : List Agent → ℕ → QueueOf → Option ℕ → Result OfferRequest OfferFault
asked_by agents number queue None = Err NobodyWaiting
asked_by agents number queue (Some channel) = asked_for number channel (least_penalty agents queue.members)

-- the request of a queue
abbrev pub asked_in : List Agent → ℕ → Option QueueOf → Result OfferRequest OfferFault
asked_in agents number None = Err NoQueue
asked_in agents number (Some queue) = asked_by agents number queue (find (λ channel. not (is_rung agents channel)) queue.waiting)

-- the request of the queue with a number
abbrev pub asked_at : List QueueOf → List Agent → Option ℕ → Result OfferRequest OfferFault
asked_at queues agents None = Err NoQueue
asked_at queues agents (Some number) = asked_in agents number (slice_get queues number)

-- the members that a queue chooses
abbrev pub chosen_of : List Agent → ℕ → QueueOf → List Member
chosen_of agents penalty queue = choices_of queue.settings.strategy queue.last (is_candidate agents penalty) queue.members

-- the members that are chosen, if there is a queue
abbrev pub chosen_in : List Agent → ℕ → Option QueueOf → List Member
chosen_in agents penalty None = []
chosen_in agents penalty (Some queue) = chosen_of agents penalty queue

-- the queue, remembering its choice
abbrev pub with_choice : List Agent → ℕ → QueueOf → QueueOf
with_choice agents penalty queue =
    record queue { last = last_after queue.settings.strategy queue.last (is_candidate agents penalty) queue.members }

-- the agents of these members ring for a channel that waits in a queue
abbrev pub all_ringing : ℕ → ℕ → List Member → List Agent → List Agent
all_ringing queue channel members agents = fold (λ known member. with_state_at member.agent (Ringing queue channel) known) agents members

-- the queues after an offer to these members, and the number of members
abbrev pub after_offer : QueuesOf → OfferRequest → List Member → QueuesOf × Result Offered OfferFault
after_offer q asked members = (
  record q {
    queues = changed_at (with_choice q.agents asked.penalty) asked.queue q.queues;
    agents = all_ringing asked.queue asked.channel members q.agents;
  },
  Ok (record { channel = asked.channel; rung = length members }),
)

-- an offer, given its request
abbrev pub offer_row_at : QueuesOf → Result OfferRequest OfferFault → QueuesOf × Result Offered OfferFault
offer_row_at q (Err fault) = (q, Err fault)
offer_row_at q (Ok asked) = after_offer q asked (chosen_in q.agents asked.penalty (slice_get q.queues asked.queue))

-- a call of the queue with a name is offered
abbrev pub offer_row : QueuesOf → List ℕ → QueuesOf × Result Offered OfferFault
offer_row q name = offer_row_at q (asked_at q.queues q.agents (queue_number q.queues name))
