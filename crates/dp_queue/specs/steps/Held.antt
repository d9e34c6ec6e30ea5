-- The places of the members of a queue, given the numbers of their agents.
use Rattle.std.specs.Prelude.{◌≡◌, ℕ, Bool, false, nat_eq, List, slice_get}
use Rattle.std.specs.HashMap.{HashMap, get}
use Rattle.std.specs.List.{list_any}
use Rattle.std.specs.Option.{is_some, option_map, unwrap_or}
use Rattle.std.specs.declared.hash.BuildHasherDefault.{BuildHasherDefault}
use Rattle.std.specs.declared.hash.FoldHasher.{FoldHasher}
use Rattle.dp_queue.specs.Good.{StandOnce}
use Rattle.dp_queue.specs.Members.{is_agent}
use Rattle.dp_queue.specs.declared.member.Member.{Member}

-- places, given the numbers of agents
abbrev pub HintsOf : Type 0
HintsOf = HashMap ℕ ℕ (BuildHasherDefault FoldHasher)

-- the member at a place is this agent
abbrev pub is_agent_at : ℕ → List Member → ℕ → Bool
is_agent_at agent members place = unwrap_or (option_map (is_agent agent) (slice_get members place)) false

-- no agent is a member twice, and those that are members have a place
abbrev pub AreHeld : HintsOf → List Member → Type 0
AreHeld hints members = StandOnce members × ((agent : ℕ) → is_some (get nat_eq hints agent) ≡ list_any (is_agent agent) members)
