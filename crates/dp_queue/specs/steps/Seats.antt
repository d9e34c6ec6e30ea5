-- The queue in which each channel waits or the agent with which it talks, kept in addition to the waiting lists and the agents.
use Rattle.std.specs.Prelude.{◌≡◌, ℕ, ◌+◌, Bool, true, false, ◌==◌, nat_eq, List, [], ◌∷◌, Option, Some, None, slice_get, if◌then◌else◌}
use Rattle.std.specs.HashMap.{HashMap, get}
use Rattle.std.specs.Option.{option_map, unwrap_or}
use Rattle.std.specs.declared.hash.BuildHasherDefault.{BuildHasherDefault}
use Rattle.std.specs.declared.hash.FoldHasher.{FoldHasher}
use Rattle.dp_queue.specs.Agents.{rings_for, state_at, talks_with}
use Rattle.dp_queue.specs.Joining.{waits_in}
use Rattle.dp_queue.specs.Queues.{QueueOf}
use Rattle.dp_queue.specs.declared.agent.Agent.{Agent}
use Rattle.dp_queue.specs.declared.waiting_seat.Sitting.{Sitting}
use Rattle.dp_queue.specs.declared.waiting_seat.Sitting.TheVariants.{Waits, Talks}
use Rattle.dp_queue.specs.declared.waiting_seat.WaitingSeat.{WaitingSeat}

-- the seats of the channels that wait or talk, given their numbers
abbrev pub SeatsOf : Type 0
SeatsOf = HashMap ℕ Sitting (BuildHasherDefault FoldHasher)

-- the seat of a waiting channel
abbrev pub seat_of : Option Sitting → Option WaitingSeat
seat_of None = None
seat_of (Some (Waits seat arrival)) = Some seat
seat_of (Some (Talks agent)) = None

-- the rank of its arrival
abbrev pub arrival_in : Option Sitting → ℕ
arrival_in None = 0
arrival_in (Some (Waits seat arrival)) = arrival
arrival_in (Some (Talks agent)) = 0

-- the number of the agent with which a channel talks
abbrev pub agent_of : Option Sitting → Option ℕ
agent_of None = None
agent_of (Some (Waits seat arrival)) = None
agent_of (Some (Talks agent)) = Some agent

-- the seat of a channel, if it waits
abbrev pub seat_at : SeatsOf → ℕ → Option WaitingSeat
seat_at seats c = seat_of (get nat_eq seats c)

-- the number of the agent that talks with a channel
abbrev pub talk_at : SeatsOf → ℕ → Option ℕ
talk_at seats c = agent_of (get nat_eq seats c)

-- the number of agents that ring for a channel, according to its seat
abbrev pub rung_at : SeatsOf → ℕ → ℕ
rung_at seats c = unwrap_or (option_map (λ seat. seat.rung) (seat_at seats c)) 0

-- the rank of a channel's arrival
abbrev pub arrival_of : SeatsOf → ℕ → ℕ
arrival_of seats c = arrival_in (get nat_eq seats c)

-- the channel is at a place of a waiting list
abbrev pub stands_at : ℕ → List ℕ → ℕ → Bool
stands_at c waiting place = unwrap_or (option_map (λ d. d == c) (slice_get waiting place)) false

-- the number of agents that ring for the channel
abbrev pub rung_count : List Agent → ℕ → ℕ
rung_count [] c = 0
rung_count (agent ∷ agents) c = (if rings_for c agent.state then 1 else 0) + rung_count agents c

-- the seat of a channel that waits in this queue
abbrev pub seat_in : List Agent → ℕ → ℕ → WaitingSeat
seat_in agents c queue = record { queue = queue; rung = rung_count agents c }

-- the seats have the queue in which each channel waits, and the number of agents that ring for it
abbrev pub AreSeated : SeatsOf → List QueueOf → List Agent → Type 0
AreSeated seats queues agents = (c : ℕ) → seat_at seats c ≡ option_map (seat_in agents c) (waits_in queues c)

-- the seats are as before except for that of one channel
abbrev pub ReplacesSeat : ℕ → Option WaitingSeat → SeatsOf → SeatsOf → Type 0
ReplacesSeat c seat old new = (d : ℕ) → seat_at new d ≡ (if c == d then seat else seat_at old d)

-- each talking agent is found from its channel
abbrev pub AreFound : SeatsOf → List Agent → Type 0
AreFound seats agents = (a c : ℕ) → talks_with c (state_at agents a) ≡ true → talk_at seats c ≡ Some a

-- the agents that are found are as before except for that of one channel
abbrev pub ReplacesTalk : ℕ → Option ℕ → SeatsOf → SeatsOf → Type 0
ReplacesTalk c agent old new = (d : ℕ) → talk_at new d ≡ (if c == d then agent else talk_at old d)

-- according to its seat, no agent rings for the channel
abbrev pub is_unrung_in : Option WaitingSeat → Bool
is_unrung_in None = true
is_unrung_in (Some seat) = seat.rung == 0

abbrev pub is_unrung : SeatsOf → ℕ → Bool
is_unrung seats c = is_unrung_in (seat_at seats c)
