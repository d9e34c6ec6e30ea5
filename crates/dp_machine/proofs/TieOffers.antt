-- Offers and declines do not change who waits and who talks.
use Rattle.std.proofs.Common.{◌≡◌, ℕ, zero, suc, ◌<◌, ◌==◌, true, List, [], ◌∷◌, Option, Some, None, Ok, Err, refl, sym, ap, ◌∙◌, slice_get, length}
use Rattle.std.specs.List.{All}
use Rattle.std.proofs.lemmas.List.Elements.{All-nil, All-head, All-tail, All-weaker}
use Rattle.dp_queue.specs.Agents.{agent_number, is_idle, state_at, with_state_at}
use Rattle.dp_queue.specs.Calls.{decline_row, decline_row_at}
use Rattle.dp_conf.specs.Changes.{changed_at}
use Rattle.dp_queue.specs.Choices.{is_candidate}
use Rattle.dp_queue.specs.Offers.{all_ringing, asked_at, chosen_in, chosen_of, offer_row, offer_row_at, with_choice}
use Rattle.dp_queue.specs.Queues.{QueueOf, QueuesOf, queue_number}
use Rattle.dp_queue.specs.declared.agent.Agent.{Agent}
use Rattle.dp_queue.specs.declared.agent.AgentState.{AgentState}
use Rattle.dp_queue.specs.declared.agent.AgentState.TheVariants.{Idle, Ringing, Talking}
use Rattle.dp_queue.specs.declared.member.Member.{Member}
use Rattle.dp_queue.proofs.GoodLemmas.{busy-within, by_test}
use Rattle.dp_queue.proofs.OfferLemmas.{candidate-idle, passes-choices_of}
use Rattle.dp_queue.proofs.WaitingLemmas.{lines-changed_at, waits_in-same}
use Rattle.dp_machine.proofs.TieQueues.{SameTies, ringing_not_talking, set_here, set_there, talking_not_idle}
use borrow.Author.Tests.{eqb-true}

-- each agent talks with the same channel as before
pub record SameTalks (before after : List Agent) : Type 0 where
  pub talking : (agent queue m : ℕ) → state_at after agent ≡ Talking queue m → state_at before agent ≡ Talking queue m
  pub talks : (agent queue m : ℕ) → state_at before agent ≡ Talking queue m → state_at after agent ≡ Talking queue m

-- the same agents
talks-self : (agents : List Agent) → SameTalks agents agents
talks-self agents = record { talking = λ agent queue m is. is; talks = λ agent queue m is. is }

-- an agent in this state talks with nobody
abbrev pub IsSilent : AgentState → Type 0
IsSilent s = (queue m : ℕ) → s ≡ Talking queue m → ⊥

-- an agent that talks with nobody gets a state in which it talks with nobody
pub talks-set : (before agents : List Agent) (a : ℕ) (s : AgentState) → a < length agents → IsSilent (state_at agents a) → IsSilent s
    → SameTalks before agents → SameTalks before (with_state_at a s agents)
talks-set before agents a s within silent new_silent same = record {
  talking = λ agent queue m is. by_test (a == agent)
      (λ here. absurd (new_silent queue m (sym (set_here agents a s within agent here) ∙ is)))
      (λ there. same.talking agent queue m (sym (set_there agents a s within agent there) ∙ is));
  talks = λ agent queue m is. by_test (a == agent)
      (λ here. absurd (silent queue m (ap (state_at agents) (eqb-true a agent here) ∙ same.talks agent queue m is)))
      (λ there. set_there agents a s within agent there ∙ same.talks agent queue m is);
}

-- an idle agent talks with nobody
idle-silent : (s : AgentState) → is_idle s ≡ true → IsSilent s
idle-silent Idle idle queue m is = talking_not_idle queue m is
idle-silent (Ringing k c) idle queue m is = absurd (cc)
idle-silent (Talking k c) idle queue m is = absurd (cc)

-- whoever talks after an agent began to ring talked before
talking-rung : (k c a b queue m : ℕ) (agents : List Agent) → state_at (with_state_at a (Ringing k c) agents) b ≡ Talking queue m
    → state_at agents b ≡ Talking queue m
talking-rung k c a b queue m [] is = is
talking-rung k c zero zero queue m (x ∷ xs) is = absurd (ringing_not_talking k c queue m is)
talking-rung k c zero (suc b) queue m (x ∷ xs) is = is
talking-rung k c (suc a) zero queue m (x ∷ xs) is = is
talking-rung k c (suc a) (suc b) queue m (x ∷ xs) is = talking-rung k c a b queue m xs is

-- and whoever talked still talks, if the agent talked with nobody
talks-rung : (k c a b queue m : ℕ) (agents : List Agent) → IsSilent (state_at agents a) → state_at agents b ≡ Talking queue m
    → state_at (with_state_at a (Ringing k c) agents) b ≡ Talking queue m
talks-rung k c a b queue m [] silent is = is
talks-rung k c zero zero queue m (x ∷ xs) silent is = absurd (silent queue m is)
talks-rung k c zero (suc b) queue m (x ∷ xs) silent is = is
talks-rung k c (suc a) zero queue m (x ∷ xs) silent is = is
talks-rung k c (suc a) (suc b) queue m (x ∷ xs) silent is = talks-rung k c a b queue m xs silent is

-- the agent of a member talks with nobody
abbrev pub IsSilentIn : List Agent → Member → Type 0
IsSilentIn agents member = IsSilent (state_at agents member.agent)

-- the agents of such members begin to ring
talks-rings : (before : List Agent) (k c : ℕ) (members : List Member) (agents : List Agent) → SameTalks before agents
    → All (IsSilentIn before) members → SameTalks before (all_ringing k c members agents)
talks-rings before k c [] agents same silent = same
talks-rings before k c (m ∷ ms) agents same silent =
    talks-rings before k c ms (with_state_at m.agent (Ringing k c) agents) (record {
      talking = λ agent queue n is. same.talking agent queue n (talking-rung k c m.agent agent queue n agents is);
      talks = λ agent queue n is. talks-rung k c m.agent agent queue n agents
          (λ j l talks. All-head (IsSilentIn before) m ms silent j l (same.talking m.agent j l talks)) (same.talks agent queue n is);
    }) (All-tail (IsSilentIn before) m ms silent)

-- a call is offered
pub same-offered : (q : QueuesOf) (name : List ℕ) → SameTies q (offer_row q name).0
same-offered q name = elim (asked_at q.queues q.agents (queue_number q.queues name)) as (λ r. SameTies q (offer_row_at q r).0) [
  | Err fault ↦ record { waits = λ m. refl; talking = λ agent queue m is. is; talks = λ agent queue m is. is }
  | Ok asked ↦ record {
    waits = λ m. waits_in-same (changed_at (with_choice q.agents asked.penalty) asked.queue q.queues) q.queues m
        (lines-changed_at (with_choice q.agents asked.penalty) asked.queue q.queues (λ _. refl));
    talking = (rung asked.queue asked.channel asked.penalty (slice_get q.queues asked.queue)).talking;
    talks = (rung asked.queue asked.channel asked.penalty (slice_get q.queues asked.queue)).talks;
  }
]
  where
    silent : (p : ℕ) (o : Option QueueOf) → All (IsSilentIn q.agents) (chosen_in q.agents p o)
    silent p None = All-nil (IsSilentIn q.agents)
    silent p (Some queue) = All-weaker (λ (m : Member). is_candidate q.agents p m ≡ true) (IsSilentIn q.agents)
        (λ m may. idle-silent (state_at q.agents m.agent) (candidate-idle q.agents p m may)) (chosen_of q.agents p queue)
        (passes-choices_of queue.settings.strategy queue.last (is_candidate q.agents p) queue.members)

    rung : (k c p : ℕ) (o : Option QueueOf) → SameTalks q.agents (all_ringing k c (chosen_in q.agents p o) q.agents)
    rung k c p o = talks-rings q.agents k c (chosen_in q.agents p o) q.agents (talks-self q.agents) (silent p o)

-- an agent declines
pub same-declined : (q : QueuesOf) (name : List ℕ) → SameTies q (decline_row q name).0
same-declined q name = by (agent_number q.agents name) (state_at q.agents (agent_number q.agents name)) refl
  where
    by : (a : ℕ) (s : AgentState) → state_at q.agents a ≡ s → SameTies q (decline_row_at q a s).0
    by a Idle is = record { waits = λ m. refl; talking = λ agent queue m is. is; talks = λ agent queue m is. is }
    by a (Ringing queue channel) is =
        let same : SameTalks q.agents (with_state_at a Idle q.agents) = talks-set q.agents q.agents a Idle
        (busy-within q.agents a (Ringing queue channel) is refl) (λ j m talks. ringing_not_talking queue channel j m (sym is ∙ talks)) talking_not_idle (talks-self q.agents) in
        record { waits = λ m. refl; talking = same.talking; talks = same.talks }
    by a (Talking queue channel) is = record { waits = λ m. refl; talking = λ agent queue m is. is; talks = λ agent queue m is. is }
