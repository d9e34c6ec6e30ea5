-- The members of a queue that an offer may ring, and those that a strategy chooses.
use Rattle.std.specs.Prelude.{ℕ, ◌+◌, Bool, not, ◌&&◌, ◌==◌, nat_lt, List, ◌++◌, take, drop, fold, Option, Some, None, if◌then◌else◌}
use Rattle.std.specs.List.{filter, find, position}
use Rattle.std.specs.Option.{option_map, option_to_list}
use Rattle.dp_queue.specs.Agents.{is_idle, state_at}
use Rattle.dp_queue.specs.Members.{is_agent}
use Rattle.dp_queue.specs.Queues.{QueueOf}
use Rattle.dp_queue.specs.declared.agent.Agent.{Agent}
use Rattle.dp_queue.specs.declared.choice.Key.{Key}
use Rattle.dp_queue.specs.declared.choice.Key.TheVariants.{Penalty, Last, Calls}
use Rattle.dp_queue.specs.declared.member.Member.{Member}
use Rattle.dp_queue.specs.declared.settings.Strategy.{Strategy}
use Rattle.dp_queue.specs.declared.settings.Strategy.TheVariants.{RingAll, Linear, LeastRecent, FewestCalls, RrMemory}

-- the agent with a number is idle; an unknown agent is
abbrev pub is_idle_at : List Agent → ℕ → Bool
is_idle_at agents number = is_idle (state_at agents number)

-- a member that an offer may ring: it is not paused, and its agent is idle
abbrev pub is_eligible : List Agent → Member → Bool
is_eligible agents member = not member.is_paused && is_idle_at agents member.agent

-- such a member with this penalty
abbrev pub is_candidate : List Agent → ℕ → Member → Bool
is_candidate agents penalty member = is_eligible agents member && member.penalty == penalty

-- the member with the smaller number, or the first if they are equal
abbrev pub lesser : (Member → ℕ) → Option Member → Member → Option Member
lesser f None member = Some member
lesser f (Some best) member = Some (if nat_lt (f member) (f best) then member else best)

-- the first of the members with the smallest number
abbrev pub first_least : (Member → ℕ) → List Member → Option Member
first_least f members = fold (lesser f) None members

-- the smallest penalty of the members that an offer may ring
abbrev pub least_penalty : List Agent → List Member → Option ℕ
least_penalty agents members =
    option_map (λ member. member.penalty) (first_least (λ member. member.penalty) (filter (is_eligible agents) members))

-- the members rotated to begin after the one at a place
abbrev pub turned_at : Option ℕ → List Member → List Member
turned_at None members = members
turned_at (Some place) members = drop (place + 1) members ++ take (place + 1) members

-- the members rotated to begin after the one chosen last; unchanged if none was, or if it is no longer a member
abbrev pub members_after : Option ℕ → List Member → List Member
members_after None members = members
members_after (Some last) members = turned_at (position (is_agent last) members) members

-- the number by which members are compared
abbrev pub rank : Key → Member → ℕ
rank Penalty member = member.penalty
rank Last member = member.last
rank Calls member = member.calls

-- the candidate that a strategy chooses, given the one that was chosen last; `ringall` does not choose a single one
abbrev pub one_choice : Strategy → Option ℕ → (Member → Bool) → List Member → Option Member
one_choice RingAll last test members = None
one_choice Linear last test members = find test members
one_choice LeastRecent last test members = first_least (rank Last) (filter test members)
one_choice FewestCalls last test members = first_least (rank Calls) (filter test members)
one_choice RrMemory last test members = find test (members_after last members)

-- the candidates that a strategy chooses: all for `ringall`, and at most one for the others
abbrev pub choices_of : Strategy → Option ℕ → (Member → Bool) → List Member → List Member
choices_of RingAll last test members = filter test members
choices_of Linear last test members = option_to_list (one_choice Linear last test members)
choices_of LeastRecent last test members = option_to_list (one_choice LeastRecent last test members)
choices_of FewestCalls last test members = option_to_list (one_choice FewestCalls last test members)
choices_of RrMemory last test members = option_to_list (one_choice RrMemory last test members)

-- the agent of the chosen member, or the previous one if none was chosen
abbrev pub last_choice : Option ℕ → Option Member → Option ℕ
last_choice last None = last
last_choice last (Some member) = Some member.agent

-- the agent that is remembered as chosen last
abbrev pub last_after : Strategy → Option ℕ → (Member → Bool) → List Member → Option ℕ
last_after RingAll last test members = last
last_after Linear last test members = last
last_after LeastRecent last test members = last
last_after FewestCalls last test members = last
last_after RrMemory last test members = last_choice last (one_choice RrMemory last test members)

-- the queue, remembering the chosen agent
abbrev pub with_last : Option ℕ → QueueOf → QueueOf
with_last last queue = record queue { last = last }
