-- What a call that waits keeps of the queues, and what adding, removing and pausing members keeps.
use Rattle.std.specs.Prelude.{◌≡◌, ℕ, zero, suc, ◌<◌, nat_lt, Bool, true, false, List, [], ◌∷◌, ◌++◌, Option, Some, None, length, map, take, slice_get, refl, if◌then◌else◌}
use Rattle.std.specs.Option.{option_map, unwrap_or}
use Rattle.std.proofs.Common.{ap, arith}
use Rattle.std.proofs.Math.Seq.{take-append_seam, take-length}
use Rattle.std.proofs.lemmas.Option.{none-some}
use Rattle.dp_queue.specs.Agents.{agent_number, state_at}
use Rattle.dp_conf.specs.Changes.{changed_at}
use Rattle.dp_queue.specs.Joining.{IsWithin, join_answer, join_answer_at, refuses_join, is_full, with_caller, would_join}
use Rattle.dp_queue.specs.Members.{add_row, add_row_at, is_member_at, member_of, new_member, pause_row_at, paused_queue, remove_row, remove_row_at, remove_row_in, with_agent, with_member, with_member_at, without_member}
use Rattle.dp_queue.specs.Queues.{QueueOf, QueuesOf, queue_number}
use Rattle.dp_queue.specs.declared.agent.Agent.{Agent}
use Rattle.dp_queue.specs.declared.agent.AgentState.TheVariants.{Idle}
use Rattle.dp_queue.specs.declared.change.Added.{Added}
use Rattle.dp_queue.specs.declared.change.Removed.{Removed}
use Rattle.dp_queue.specs.declared.change.Added.TheVariants.{MemberAlready, Added as added}
use Rattle.dp_queue.specs.declared.change.Removed.TheVariants.{NotDynamic, Removed as removed}
use Rattle.dp_queue.specs.declared.join.Join.TheVariants.{Unknown, Empty, Full, Joined}
use Rattle.dp_queue.specs.declared.member.Member.{Member}
use Rattle.dp_app.specs.laws.Keeping.{queues_kept}
use Rattle.dp_app.specs.Lawful.{KeepsQueues}
use Rattle.dp_qapps.specs.Pausing.{after_pausing}
use Rattle.dp_qapps.specs.Touches.{variables_and_members, variables_and_waiting}

true_is_false : true ≡ false → ⊥
true_is_false e = cc

-- what a change keeps of one queue, a change at a place keeps of all
same-changed : {X : Type 0} (f : QueueOf → X) (change : QueueOf → QueueOf) → ((queue : QueueOf) → f (change queue) ≡ f queue)
    → (place : ℕ) (queues : List QueueOf) → map f (changed_at change place queues) ≡ map f queues
same-changed f change same place [] = refl
same-changed f change same zero (queue ∷ queues) = ap (λ x. x ∷ map f queues) (same queue)
same-changed f change same (suc place) (queue ∷ queues) = ap (λ rest. f queue ∷ rest) (same-changed f change same place queues)

-- what a change keeps of one queue, a change of each queue keeps of all
same-map : {X : Type 0} (f : QueueOf → X) (change : QueueOf → QueueOf) → ((queue : QueueOf) → f (change queue) ≡ f queue)
    → (queues : List QueueOf) → map f (map change queues) ≡ map f queues
same-map f change same [] = refl
same-map f change same (queue ∷ queues) = λ i. same queue i ∷ same-map f change same queues i

-- one more call waits in the queue with the number
pub lists-joined : (c number : ℕ) (queues : List QueueOf)
    → map (λ queue. queue.waiting) (changed_at (with_caller c) number queues) ≡ changed_at (λ waiting. waiting ++ c ∷ []) number (map (λ queue. queue.waiting) queues)
lists-joined c number [] = refl
lists-joined c zero (queue ∷ queues) = refl
lists-joined c (suc number) (queue ∷ queues) = ap (λ rest. queue.waiting ∷ rest) (lists-joined c number queues)

-- a call that joins changes nothing but the waiting lists
pub joined_kept : (q : QueuesOf) (c number : ℕ)
    → KeepsQueues variables_and_waiting q (record q { queues = changed_at (with_caller c) number q.queues })
joined_kept q c number = record {
  names = same-changed (λ queue. queue.name) (with_caller c) (λ queue. refl) number q.queues;
  settings = same-changed (λ queue. queue.settings) (with_caller c) (λ queue. refl) number q.queues;
  finished = refl;
  known = take-length q.agents;
  states = λ number. refl;
  members = λ h. same-changed (λ queue. queue.members) (with_caller c) (λ queue. refl) number q.queues;
  lasts = λ h. same-changed (λ queue. queue.last) (with_caller c) (λ queue. refl) number q.queues;
  agents = λ h. refl;
  waiting = λ h. absurd (true_is_false h);
}

-- a place that has an element is one of the places
place_within : {X : Type 0} (xs : List X) (place : ℕ) (x : X) → slice_get xs place ≡ Some x → place < length xs
place_within [] place x found = absurd (none-some x found)
place_within (y ∷ ys) zero x found = omega arith
place_within (y ∷ ys) (suc place) x found = omega (arith, place_within ys place x found)

-- the reply of the queue with the number to a call, if it is one of so many
answer_within : (count number : ℕ) (queue : QueueOf) → number < count → IsWithin count (join_answer number queue)
answer_within count number queue within = by (refuses_join queue.settings.joinempty queue.members) (is_full queue.settings.maxlen queue.waiting)
  where
    by : (empty full : Bool) → IsWithin count (if empty then Empty else if full then Full else Joined number)
    by true full = tt
    by false true = tt
    by false false = within

-- a queue that a call has joined, as its reply says, is one of the queues
pub joins_within : (queues : List QueueOf) (name : List ℕ) → IsWithin (length queues) (would_join queues name)
joins_within queues name = by (queue_number queues name)
  where
    found : (number : ℕ) (o : Option QueueOf) → slice_get queues number ≡ o → IsWithin (length queues) (unwrap_or (option_map (join_answer number) o) Unknown)
    found number None is = tt
    found number (Some queue) is = answer_within (length queues) number queue (place_within queues number queue is)

    by : (o : Option ℕ) → IsWithin (length queues) (join_answer_at queues o)
    by None = tt
    by (Some number) = found number (slice_get queues number) refl

-- queues of which only the members change, and agents that are idle after the known ones
members_kept : (q : QueuesOf) (queues : List QueueOf) (agents : List Agent)
    → map (λ queue. queue.name) queues ≡ map (λ queue. queue.name) q.queues
    → map (λ queue. queue.settings) queues ≡ map (λ queue. queue.settings) q.queues
    → map (λ queue. queue.waiting) queues ≡ map (λ queue. queue.waiting) q.queues
    → take (length q.agents) agents ≡ q.agents
    → ((number : ℕ) → state_at agents number ≡ state_at q.agents number)
    → KeepsQueues variables_and_members q (record { queues = queues; agents = agents; finished = q.finished })
members_kept q queues agents names settings waiting known states = record {
  names = names;
  settings = settings;
  finished = refl;
  known = known;
  states = states;
  members = λ h. absurd (true_is_false h);
  lasts = λ h. absurd (true_is_false h);
  agents = λ h. absurd (true_is_false h);
  waiting = λ h. waiting;
}

-- one more idle agent changes no state
state-push : (agents : List Agent) (name : List ℕ) (number : ℕ)
    → state_at (agents ++ (record { name = name; state = Idle }) ∷ []) number ≡ state_at agents number
state-push [] name zero = refl
state-push [] name (suc number) = refl
state-push (agent ∷ agents) name zero = refl
state-push (agent ∷ agents) name (suc number) = state-push agents name number

-- the known agents stay as they are when that of a name joins them
known_kept : (agents : List Agent) (name : List ℕ) (b : Bool)
    → take (length agents) (if b then agents else agents ++ (record { name = name; state = Idle }) ∷ []) ≡ agents
known_kept agents name true = take-length agents
known_kept agents name false = take-append_seam agents ((record { name = name; state = Idle }) ∷ [])

states_kept : (agents : List Agent) (name : List ℕ) (b : Bool) (number : ℕ)
    → state_at (if b then agents else agents ++ (record { name = name; state = Idle }) ∷ []) number ≡ state_at agents number
states_kept agents name true number = refl
states_kept agents name false number = state-push agents name number

-- a member is added
added_kept : (q : QueuesOf) (name : List ℕ) (penalty : ℕ) (o : Option ℕ) → KeepsQueues variables_and_members q (add_row_at q o name penalty).0
added_kept q name penalty None = queues_kept variables_and_members q
added_kept q name penalty (Some number) = by (is_member_at q.queues number (agent_number q.agents name))
  where
    change : QueueOf → QueueOf
    change = with_member (new_member (agent_number q.agents name) penalty true)

    by : (b : Bool) → KeepsQueues variables_and_members q (if◌then◌else◌ {A = QueuesOf × Added} b (q, MemberAlready) (with_member_at q number name penalty true, added)).0
    by true = queues_kept variables_and_members q
    by false = members_kept q (changed_at change number q.queues) (with_agent q.agents name)
        (same-changed (λ queue. queue.name) change (λ queue. refl) number q.queues)
        (same-changed (λ queue. queue.settings) change (λ queue. refl) number q.queues)
        (same-changed (λ queue. queue.waiting) change (λ queue. refl) number q.queues)
        (known_kept q.agents name (nat_lt (agent_number q.agents name) (length q.agents)))
        (states_kept q.agents name (nat_lt (agent_number q.agents name) (length q.agents)))

-- adding a member keeps the rest
pub add_kept : (q : QueuesOf) (queue name : List ℕ) (penalty : ℕ) → KeepsQueues variables_and_members q (add_row q queue name penalty).0
add_kept q queue name penalty = added_kept q name penalty (queue_number q.queues queue)

-- queues of which only the members change
module _ (q : QueuesOf) (change : QueueOf → QueueOf) (names : (queue : QueueOf) → (change queue).name ≡ queue.name)
    (settings : (queue : QueueOf) → (change queue).settings ≡ queue.settings) (waiting : (queue : QueueOf) → (change queue).waiting ≡ queue.waiting) where
  -- in the queue with a number
  one_kept : (number : ℕ) → KeepsQueues variables_and_members q (record q { queues = changed_at change number q.queues })
  one_kept number = members_kept q (changed_at change number q.queues) q.agents
      (same-changed (λ queue. queue.name) change names number q.queues)
      (same-changed (λ queue. queue.settings) change settings number q.queues)
      (same-changed (λ queue. queue.waiting) change waiting number q.queues)
      (take-length q.agents) (λ number. refl)

  -- in all queues
  all_kept : KeepsQueues variables_and_members q (record q { queues = map change q.queues })
  all_kept = members_kept q (map change q.queues) q.agents
      (same-map (λ queue. queue.name) change names q.queues)
      (same-map (λ queue. queue.settings) change settings q.queues)
      (same-map (λ queue. queue.waiting) change waiting q.queues)
      (take-length q.agents) (λ number. refl)

-- a member is removed
removed_kept : (q : QueuesOf) (a : ℕ) (o : Option ℕ) → KeepsQueues variables_and_members q (remove_row_at q o a).0
removed_kept q a None = queues_kept variables_and_members q
removed_kept q a (Some number) = found (member_of a (slice_get q.queues number))
  where
    by : (b : Bool) → KeepsQueues variables_and_members q (if◌then◌else◌ {A = QueuesOf × Removed} b (record q { queues = changed_at (without_member a) number q.queues }, removed) (q, NotDynamic)).0
    by true = one_kept q (without_member a) (λ queue. refl) (λ queue. refl) (λ queue. refl) number
    by false = queues_kept variables_and_members q

    found : (o : Option Member) → KeepsQueues variables_and_members q (remove_row_in q number a o).0
    found None = queues_kept variables_and_members q
    found (Some member) = by member.is_dynamic

-- removing a member keeps the rest
pub remove_kept : (q : QueuesOf) (queue name : List ℕ) → KeepsQueues variables_and_members q (remove_row q queue name).0
remove_kept q queue name = removed_kept q (agent_number q.agents name) (queue_number q.queues queue)

-- a member is paused in the queue with a number, if there is one
paused_kept : (q : QueuesOf) (a : ℕ) (is_paused : Bool) (o : Option ℕ) → KeepsQueues variables_and_members q (pause_row_at q o a is_paused).0
paused_kept q a is_paused None = queues_kept variables_and_members q
paused_kept q a is_paused (Some number) = one_kept q (paused_queue a is_paused) (λ queue. refl) (λ queue. refl) (λ queue. refl) number

-- pausing a member keeps the rest
pub pause_kept : (q : QueuesOf) (queue : Option (List ℕ)) (interface : List ℕ) (is_paused : Bool)
    → KeepsQueues variables_and_members q (after_pausing q queue interface is_paused).0
pause_kept q queue [] is_paused = queues_kept variables_and_members q
pause_kept q None (b ∷ bs) is_paused =
    all_kept q (paused_queue (agent_number q.agents (b ∷ bs)) is_paused) (λ queue. refl) (λ queue. refl) (λ queue. refl)
pause_kept q (Some queue) (b ∷ bs) is_paused = paused_kept q (agent_number q.agents (b ∷ bs)) is_paused (queue_number q.queues queue)
