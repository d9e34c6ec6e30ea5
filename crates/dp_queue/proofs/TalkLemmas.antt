-- An offer does not change who talks and who waits.
use Rattle.std.proofs.Common.{◌≡◌, ℕ, zero, suc, ◌==◌, true, false, List, [], ◌∷◌, Option, Some, None, Result, Ok, Err, refl, sym, ap, ◌∙◌, slice_get}
use Rattle.std.proofs.lemmas.List.Elements.{All-head, All-nil, All-tail, All-weaker}
use Rattle.std.specs.List.{All}
use Rattle.dp_queue.specs.Agents.{is_idle, state_at, with_state_at}
use Rattle.dp_conf.specs.Changes.{changed_at}
use Rattle.dp_queue.specs.Choices.{is_candidate}
use Rattle.dp_queue.specs.Joining.{waits_in}
use Rattle.dp_queue.specs.Offers.{all_ringing, asked_at, chosen_in, offer_row, offer_row_at, with_choice}
use Rattle.dp_queue.specs.Queues.{QueueOf, QueuesOf, queue_number}
use Rattle.dp_queue.specs.declared.agent.Agent.{Agent}
use Rattle.dp_queue.specs.declared.agent.AgentState.{AgentState}
use Rattle.dp_queue.specs.declared.agent.AgentState.TheVariants.{Ringing, Talking}
use Rattle.dp_queue.specs.declared.fault.OfferFault.{OfferFault}
use Rattle.dp_queue.specs.declared.member.Member.{Member}
use Rattle.dp_queue.specs.declared.offer.OfferRequest.{OfferRequest}
use Rattle.dp_queue.proofs.AgentLemmas.{state_at-other}
use Rattle.dp_queue.proofs.GoodLemmas.{by_test}
use Rattle.dp_queue.proofs.OfferLemmas.{candidate-idle, passes-choices_of}
use Rattle.dp_queue.proofs.WaitingLemmas.{lines-changed_at, waits_in-same}
use borrow.Author.Tests.{eqb-true, eq-eqb}

-- agents of which each talks with the same channel as before
pub record KeepsTalks (before after : List Agent) : Type 0 where
  pub talking : (agent queue channel : ℕ) → state_at after agent ≡ Talking queue channel → state_at before agent ≡ Talking queue channel
  pub talks : (agent queue channel : ℕ) → state_at before agent ≡ Talking queue channel → state_at after agent ≡ Talking queue channel

-- the same agents
talks-self : (as' : List Agent) → KeepsTalks as' as'
talks-self as' = record { talking = λ agent queue channel is. is; talks = λ agent queue channel is. is }

-- a state in which an agent talks with nobody
abbrev IsSilent : AgentState → Type 0
IsSilent s = (queue channel : ℕ) → s ≡ Talking queue channel → ⊥

idle-silent : (s : AgentState) → is_idle s ≡ true → IsSilent s
idle-silent s idle queue channel is = let busy : is_idle s ≡ false = ap is_idle is in absurd (cc)

ringing-silent : (queue channel : ℕ) → IsSilent (Ringing queue channel)
ringing-silent queue channel other d is = absurd (cc)

-- it talks with nobody after an agent begins to ring
silent-set : (k c a b : ℕ) (as' : List Agent) → IsSilent (state_at as' b) → IsSilent (state_at (with_state_at a (Ringing k c) as') b)
silent-set k c a b [] silent = silent
silent-set k c zero zero (x ∷ xs) silent = ringing-silent k c
silent-set k c zero (suc b) (x ∷ xs) silent = silent
silent-set k c (suc a) zero (x ∷ xs) silent = silent
silent-set k c (suc a) (suc b) (x ∷ xs) silent = silent-set k c a b xs silent

-- and others talk as before
talks-set : (k c a : ℕ) (as' : List Agent) → IsSilent (state_at as' a) → KeepsTalks as' (with_state_at a (Ringing k c) as')
talks-set k c a as' silent = record {
  talking = λ b queue channel is. by_test (b == a)
      (λ (here : (b == a) ≡ true). absurd (silent-set k c a b as' (silent_at b here) queue channel is))
      (λ (there : (b == a) ≡ false). sym (state_at-other a (Ringing k c) as' b (differ b there)) ∙ is);
  talks = λ b queue channel is. by_test (b == a)
      (λ (here : (b == a) ≡ true). absurd (silent_at b here queue channel is))
      (λ (there : (b == a) ≡ false). state_at-other a (Ringing k c) as' b (differ b there) ∙ is);
}
  where
    silent_at : (b : ℕ) → (b == a) ≡ true → IsSilent (state_at as' b)
    silent_at b here queue channel is = silent queue channel (ap (state_at as') (sym (eqb-true b a here)) ∙ is)

    differ : (b : ℕ) → (b == a) ≡ false → b ≡ a → ⊥
    differ b there same = let here : (b == a) ≡ true = eq-eqb b a same in absurd (cc)

-- one change after another
talks-after : (before between after : List Agent) → KeepsTalks before between → KeepsTalks between after → KeepsTalks before after
talks-after before between after first second = record {
  talking = λ agent queue channel is. first.talking agent queue channel (second.talking agent queue channel is);
  talks = λ agent queue channel is. second.talks agent queue channel (first.talks agent queue channel is);
}

talks-all : (k c : ℕ) (ms : List Member) (as' : List Agent) → All (λ (m : Member). IsSilent (state_at as' m.agent)) ms → KeepsTalks as' (all_ringing k c ms as')
talks-all k c [] as' silent = talks-self as'
talks-all k c (m ∷ ms) as' silent =
    let next : List Agent = with_state_at m.agent (Ringing k c) as' in
    talks-after as' next (all_ringing k c ms next) (talks-set k c m.agent as' (All-head (λ (member : Member). IsSilent (state_at as' member.agent)) m ms silent))
    (talks-all k c ms next
    (All-weaker (λ (member : Member). IsSilent (state_at as' member.agent)) (λ (member : Member). IsSilent (state_at next member.agent))
    (λ member quiet. silent-set k c m.agent member.agent as' quiet) ms (All-tail (λ (member : Member). IsSilent (state_at as' member.agent)) m ms silent)))

-- the chosen agents talk with nobody
silent-chosen : (as' : List Agent) (penalty : ℕ) (o : Option QueueOf) → All (λ (m : Member). IsSilent (state_at as' m.agent)) (chosen_in as' penalty o)
silent-chosen as' penalty None = All-nil (λ (m : Member). IsSilent (state_at as' m.agent))
silent-chosen as' penalty (Some queue) =
    All-weaker (λ (m : Member). is_candidate as' penalty m ≡ true) (λ (m : Member). IsSilent (state_at as' m.agent))
    (λ m may. idle-silent (state_at as' m.agent) (candidate-idle as' penalty m may)) (chosen_in as' penalty (Some queue))
    (passes-choices_of queue.settings.strategy queue.last (is_candidate as' penalty) queue.members)

talks-offered_at : (q : QueuesOf) (asked : Result OfferRequest OfferFault) → KeepsTalks q.agents (offer_row_at q asked).0.agents
talks-offered_at q (Err fault) = talks-self q.agents
talks-offered_at q (Ok asked) =
    talks-all asked.queue asked.channel (chosen_in q.agents asked.penalty (slice_get q.queues asked.queue)) q.agents
    (silent-chosen q.agents asked.penalty (slice_get q.queues asked.queue))

-- an offer is made
pub talks-offered : (q : QueuesOf) (name : List ℕ) → KeepsTalks q.agents (offer_row q name).0.agents
talks-offered q name = talks-offered_at q (asked_at q.queues q.agents (queue_number q.queues name))

-- and who waits stays the same
waits-offered_at : (q : QueuesOf) (asked : Result OfferRequest OfferFault) (channel : ℕ) → waits_in (offer_row_at q asked).0.queues channel ≡ waits_in q.queues channel
waits-offered_at q (Err fault) channel = refl
waits-offered_at q (Ok asked) channel =
    waits_in-same (changed_at (with_choice q.agents asked.penalty) asked.queue q.queues) q.queues channel
    (lines-changed_at (with_choice q.agents asked.penalty) asked.queue q.queues (λ queue. refl))

pub waits-offered : (q : QueuesOf) (name : List ℕ) (channel : ℕ) → waits_in (offer_row q name).0.queues channel ≡ waits_in q.queues channel
waits-offered q name = waits-offered_at q (asked_at q.queues q.agents (queue_number q.queues name))
