-- How each change of the queues concerns a channel: it agrees with the queues afterwards.
use Rattle.std.proofs.Common.{◌≡◌, ℕ, zero, suc, ◌+◌, ◌<◌, nat_lt, not, arith, ◌==◌, Bool, true, false, List, [], ◌∷◌, Option, Some, None, refl, sym, ap, ◌∙◌, subst, length, if◌then◌else◌}
use Rattle.std.proofs.lemmas.Option.{none-some, some_pair_parts}
use Rattle.std.proofs.lemmas.Bool.{lt-ltb}
use Rattle.std.proofs.lemmas.List.{length-map}
use Rattle.std.specs.List.{position_or_len}
use Rattle.std.specs.Option.{unwrap_or}
use Rattle.dp_queue.specs.Agents.{all_freed, idle_if_ringing, freed_state, state_at, talker, talks_with, with_state_at}
use Rattle.dp_queue.specs.Calls.{after_answer, done_row_at, end_talk_row, after_talk, finished_queue}
use Rattle.dp_conf.specs.Changes.{changed_at}
use Rattle.dp_queue.specs.Changes.{one_more}
use Rattle.dp_queue.specs.Good.{IsGood}
use Rattle.dp_queue.specs.Joining.{after_leaving, leave_row, leave_row_at, waits_in, without_caller}
use Rattle.dp_queue.specs.Queues.{QueuesOf}
use Rattle.dp_queue.specs.declared.agent.Agent.{Agent}
use Rattle.dp_queue.specs.declared.agent.AgentState.{AgentState}
use Rattle.dp_queue.specs.declared.agent.AgentState.TheVariants.{Idle, Ringing, Talking}
use Rattle.dp_queue.proofs.AgentLemmas.{state_at-same, state_at-other, state_at-idle_if_ringing}
use Rattle.dp_queue.proofs.GoodLemmas.{busy-within, by_test, ringing-waits, talking-right}
use Rattle.dp_queue.proofs.WaitingLemmas.{lines-changed_at, waits_in-left, waits_in-same}
use Rattle.dp_app.specs.declared.phase.Phase.{Phase}
use Rattle.dp_app.specs.declared.phase.Phase.TheVariants.{Ready, Digits, Pause, Queued, Talking as PhaseTalking, Dialling, Ended as PhaseEnded}
use Rattle.dp_machine.specs.GoodWorld.{AreTied, queue_in, queue_of, talk_in, talk_of}
use Rattle.dp_machine.specs.World.{channel_at}
use Rattle.dp_machine.specs.declared.channel.Channel.{Channel}
use Rattle.dp_machine.proofs.TieLemmas.{Ties, apart}
use borrow.Author.Tests.{eqb-true, eq-eqb}

-- a phase in which a channel neither waits in a queue nor talks
abbrev pub Rests : Phase → Type 0
Rests phase = (queue_in phase ≡ None) × (talk_in phase ≡ None)

-- a test that passes, and one that fails
pub if_true : {X : Type 0} (b : Bool) (x y : X) → b ≡ true → (if b then x else y) ≡ x
if_true true x y e = refl
if_true false x y e = absurd (cc)

pub if_false : {X : Type 0} (b : Bool) (x y : X) → b ≡ false → (if b then x else y) ≡ y
if_false true x y e = absurd (cc)
if_false false x y e = refl

-- states that differ
pub talking_not_idle : (queue c : ℕ) → ◌≡◌ {A = AgentState} Idle (Talking queue c) → ⊥
talking_not_idle queue c e = cc

pub ringing_not_talking : (j e queue c : ℕ) → ◌≡◌ {A = AgentState} (Ringing j e) (Talking queue c) → ⊥
ringing_not_talking j e queue c same = cc

pub same_talking : (j e queue c : ℕ) → ◌≡◌ {A = AgentState} (Talking j e) (Talking queue c) → (j ≡ queue) × (e ≡ c)
same_talking j e queue c same = (cc, cc)

-- before a change the channel agrees with the queues, by its phase
pub ties-self : (channels : List Channel) (q : QueuesOf) (number : ℕ) (c : Channel) → AreTied channels q
    → channel_at channels number ≡ Some c → Ties number q q c.phase
ties-self channels q number c tied here = record {
  waits = tied.waits number ∙ ap queue_of here;
  others = λ m differs. refl;
  talking = λ agent queue is. sym (ap talk_of here) ∙ tied.talking agent queue number is;
  talks = λ agent queue is. tied.talks agent queue number (ap talk_of here ∙ is);
  still_talking = λ agent queue m differs is. is;
  still_talks = λ agent queue m differs is. is;
}

-- a phase that says the same about waiting and talking
pub ties-same : (number : ℕ) (before after : QueuesOf) (p r : Phase) → Ties number before after p → queue_in p ≡ queue_in r → talk_in p ≡ talk_in r
    → Ties number before after r
ties-same number before after p r ties same_queue same_talk = record {
  waits = ties.waits ∙ same_queue;
  others = ties.others;
  talking = λ agent queue is. sym same_talk ∙ ties.talking agent queue is;
  talks = λ agent queue is. ties.talks agent queue (same_talk ∙ is);
  still_talking = ties.still_talking;
  still_talks = ties.still_talks;
}

-- queues in which nobody begins or stops waiting, and no talk begins or ends
pub record SameTies (before after : QueuesOf) : Type 0 where
  pub waits : (m : ℕ) → waits_in after.queues m ≡ waits_in before.queues m
  pub talking : (agent queue m : ℕ) → state_at after.agents agent ≡ Talking queue m → state_at before.agents agent ≡ Talking queue m
  pub talks : (agent queue m : ℕ) → state_at before.agents agent ≡ Talking queue m → state_at after.agents agent ≡ Talking queue m

-- a channel that agreed with the queues agrees with such queues
pub ties-kept : (number : ℕ) (q before after : QueuesOf) (phase : Phase) → SameTies before after → Ties number q before phase → Ties number q after phase
ties-kept number q before after phase same ties = record {
  waits = same.waits number ∙ ties.waits;
  others = λ m differs. same.waits m ∙ ties.others m differs;
  talking = λ agent queue is. ties.talking agent queue (same.talking agent queue number is);
  talks = λ agent queue is. same.talks agent queue number (ties.talks agent queue is);
  still_talking = λ agent queue m differs is. ties.still_talking agent queue m differs (same.talking agent queue m is);
  still_talks = λ agent queue m differs is. same.talks agent queue m (ties.still_talks agent queue m differs is);
}

-- and so do all channels
pub tied-same : (channels : List Channel) (before after : QueuesOf) → SameTies before after → AreTied channels before → AreTied channels after
tied-same channels before after same tied = record {
  waits = λ m. same.waits m ∙ tied.waits m;
  talking = λ agent queue m is. tied.talking agent queue m (same.talking agent queue m is);
  talks = λ agent queue m is. same.talks agent queue m (tied.talks agent queue m is);
  sound = tied.sound;
}

-- an agent that stops ringing for a channel talks as before
idle_if_ringing-talking : (c : ℕ) (s : AgentState) (queue m : ℕ) → freed_state c s ≡ Talking queue m → s ≡ Talking queue m
idle_if_ringing-talking c Idle queue m is = absurd (talking_not_idle queue m is)
idle_if_ringing-talking c (Ringing j d) queue m is = by (d == c) is
  where
    by : (b : Bool) → (if b then Idle else Ringing j d) ≡ Talking queue m → Ringing j d ≡ Talking queue m
    by true is = absurd (talking_not_idle queue m is)
    by false is = is
idle_if_ringing-talking c (Talking j d) queue m is = is

idle_if_ringing-talks : (c : ℕ) (s : AgentState) (queue m : ℕ) → s ≡ Talking queue m → freed_state c s ≡ Talking queue m
idle_if_ringing-talks c s queue m is = ap (freed_state c) is

-- the channel leaves the queue in which it waits
pub ties-after_leaving : (number k : ℕ) (q : QueuesOf) (p r : Phase) → IsGood q → Ties number q q p → queue_in p ≡ Some k → talk_in p ≡ None → Rests r
    → Ties number q (after_leaving q k number) r
ties-after_leaving number k q p r good ties waits silent rests = record {
  waits = gone number ∙ if_true (number == number) None (waits_in q.queues number) (eq-eqb number number refl) ∙ sym rests.0;
  others = λ m differs. gone m ∙ if_false (number == m) None (waits_in q.queues m) differs;
  talking = λ agent queue is. absurd (none-some (queue, agent) (sym silent ∙ ties.talking agent queue (back agent queue number is)));
  talks = λ agent queue is. absurd (none-some (queue, agent) (sym rests.1 ∙ is));
  still_talking = λ agent queue m differs is. back agent queue m is;
  still_talks = λ agent queue m differs is. state_at-idle_if_ringing number q.agents agent ∙ idle_if_ringing-talks number (state_at q.agents agent) queue m is;
}
  where
    gone : (m : ℕ) → waits_in (changed_at (without_caller number) k q.queues) m ≡ (if number == m then None else waits_in q.queues m)
    gone m = waits_in-left q.queues number k m (good.waits_once number) (ties.waits ∙ waits)

    back : (agent queue m : ℕ) → state_at (all_freed number q.agents) agent ≡ Talking queue m → state_at q.agents agent ≡ Talking queue m
    back agent queue m is = idle_if_ringing-talking number (state_at q.agents agent) queue m (sym (state_at-idle_if_ringing number q.agents agent) ∙ is)

-- the same, for the row
pub ties-leave : (number k : ℕ) (q : QueuesOf) (p r : Phase) → IsGood q → Ties number q q p → queue_in p ≡ Some k → talk_in p ≡ None → Rests r
    → Ties number q (leave_row q number).0 r
ties-leave number k q p r good ties waits silent rests =
    subst (λ (o : Option ℕ). Ties number q (leave_row_at q number o).0 r) (sym (ties.waits ∙ waits)) (ties-after_leaving number k q p r good ties waits silent rests)

-- agents of which one gets another state
module _ (agents : List Agent) (a : ℕ) (s : AgentState) (within : a < length agents) where
  -- that one has the new state
  pub set_here : (b : ℕ) → (a == b) ≡ true → state_at (with_state_at a s agents) b ≡ s
  set_here b same = ap (state_at (with_state_at a s agents)) (sym (eqb-true a b same)) ∙ state_at-same a s agents within

  -- and the others have theirs
  pub set_there : (b : ℕ) → (a == b) ≡ false → state_at (with_state_at a s agents) b ≡ state_at agents b
  set_there b differs = state_at-other a s agents b (λ same. apart a b differs (sym same))

-- the talk of the channel with an agent ends
pub ties-after_talk : (number a k : ℕ) (q : QueuesOf) (p r : Phase) → IsGood q → Ties number q q p → state_at q.agents a ≡ Talking k number → Rests r
    → Ties number q (after_talk q a k) r
ties-after_talk number a k q p r good ties is_with rests = record {
  waits = waits number ∙ (talking-right q.queues q.agents a k number good is_with).0 ∙ sym rests.0;
  others = λ m differs. waits m;
  talking = λ agent queue is. absurd (none_left agent queue is);
  talks = λ agent queue is. absurd (none-some (queue, agent) (sym rests.1 ∙ is));
  still_talking = λ agent queue m differs is. by_test (a == agent)
      (λ same. absurd (talking_not_idle queue m (sym (set_here q.agents a Idle within agent same) ∙ is)))
      (λ apart_from. sym (set_there q.agents a Idle within agent apart_from) ∙ is);
  still_talks = λ agent queue m differs is. by_test (a == agent)
      (λ same. absurd (apart number m differs (same_talking k number queue m (sym is_with ∙ ap (state_at q.agents) (eqb-true a agent same) ∙ is)).1))
      (λ apart_from. set_there q.agents a Idle within agent apart_from ∙ is);
}
  where
    within : a < length q.agents
    within = busy-within q.agents a (Talking k number) is_with refl

    waits : (m : ℕ) → waits_in (changed_at (finished_queue a (one_more q.finished)) k q.queues) m ≡ waits_in q.queues m
    waits m = waits_in-same (changed_at (finished_queue a (one_more q.finished)) k q.queues) q.queues m
        (lines-changed_at (finished_queue a (one_more q.finished)) k q.queues (λ _. refl))

    none_left : (agent queue : ℕ) → state_at (with_state_at a Idle q.agents) agent ≡ Talking queue number → ⊥
    none_left agent queue is = by_test (a == agent)
        (λ (same : (a == agent) ≡ true). talking_not_idle queue number (sym (set_here q.agents a Idle within agent same) ∙ is))
        (λ (differs : (a == agent) ≡ false). apart a agent differs (some_pair_parts k queue a agent (sym (ties.talking a k is_with)
        ∙ ties.talking agent queue (sym (set_there q.agents a Idle within agent differs) ∙ is))).1)

-- an agent that talks with a channel is found as the one that does
module _ (number : ℕ) where
  -- whether an agent talks with it
  talks : Agent → Bool
  talks agent = talks_with number agent.state

  -- the place of the first agent that does
  first-talks : (xs : List Agent) (a : ℕ) → talks_with number (state_at xs a) ≡ true
      → (position_or_len talks xs < length xs) × (talks_with number (state_at xs (position_or_len talks xs)) ≡ true)
  unfolding talks
  first-talks [] a is = absurd (cc)
  first-talks (x ∷ xs) a is = by (talks_with number x.state) refl (first-talks xs) a is
    where
      by : (b : Bool) → talks_with number x.state ≡ b → ((a : ℕ) → talks_with number (state_at xs a) ≡ true
          → (position_or_len talks xs < length xs) × (talks_with number (state_at xs (position_or_len talks xs)) ≡ true))
          → (a : ℕ) → talks_with number (state_at (x ∷ xs) a) ≡ true
          → ((if not b then 1 + position_or_len talks xs else 0) < length (x ∷ xs))
          × (talks_with number (state_at (x ∷ xs) (if not b then 1 + position_or_len talks xs else 0)) ≡ true)
      by true here later a is = (omega arith, here)
      by false here later zero is = absurd (cc)
      by false here later (suc a) is =
          let rest : (position_or_len talks xs < length xs) × (talks_with number (state_at xs (position_or_len talks xs)) ≡ true) = later a is in
          let one : 1 + position_or_len talks xs ≡ suc (position_or_len talks xs) = omega arith in
          (omega (arith, rest.0), ap (λ n. talks_with number (state_at (x ∷ xs) n)) one ∙ rest.1)

  pub talker-talks : (agents : List Agent) (a queue : ℕ) → state_at agents a ≡ Talking queue number
      → talks_with number (state_at agents (talker agents number)) ≡ true
  unfolding talks
  talker-talks agents a queue is =
      let found : (position_or_len talks agents < length agents) × (talks_with number (state_at agents (position_or_len talks agents)) ≡ true) =
      first-talks agents a (ap (talks_with number) is ∙ eq-eqb number number refl) in
      ap (λ (o : Option ℕ). talks_with number (state_at agents (unwrap_or o (length agents))))
      (if_true (nat_lt (position_or_len talks agents) (length agents)) (Some (position_or_len talks agents)) None (lt-ltb _ _ found.0)) ∙ found.1

-- the talk of the channel ends, for the row
pub ties-end_talk : (number a k : ℕ) (q : QueuesOf) (p r : Phase) → IsGood q → Ties number q q p → talk_in p ≡ Some (k, a) → Rests r
    → Ties number q (end_talk_row q number).0 r
ties-end_talk number a k q p r good ties is_with rests =
    by (state_at q.agents (talker q.agents number)) refl (talker-talks number q.agents a k (ties.talks a k is_with))
  where
    by : (s : AgentState) → state_at q.agents (talker q.agents number) ≡ s → talks_with number s ≡ true
        → Ties number q (done_row_at q (talker q.agents number) (state_at q.agents (talker q.agents number))).0 r
    by Idle is talks = absurd (cc)
    by (Ringing j d) is talks = absurd (cc)
    by (Talking j d) is talks = subst (λ (s : AgentState). Ties number q (done_row_at q (talker q.agents number) s).0 r) (sym is)
        (ties-after_talk number (talker q.agents number) j q p r good ties (is ∙ ap (Talking j) (eqb-true d number talks)) rests)

-- an agent that rings for the channel answers
pub ties-after_answer : (number a k : ℕ) (q : QueuesOf) (p r : Phase) → IsGood q → Ties number q q p → state_at q.agents a ≡ Ringing k number
    → queue_in r ≡ None → talk_in r ≡ Some (k, a) → Ties number q (after_answer q a k number) r
ties-after_answer number a k q p r good ties rings nowhere is_with = record {
  waits = gone number ∙ if_true (number == number) None (waits_in q.queues number) (eq-eqb number number refl) ∙ sym nowhere;
  others = λ m differs. gone m ∙ if_false (number == m) None (waits_in q.queues m) differs;
  talking = λ agent queue is. by_test (a == agent)
      (λ same. let parts : (k ≡ queue) × (number ≡ number) = same_talking k number queue number (sym (here agent same) ∙ is) in
      is_with ∙ (λ i. Some (parts.0 i, eqb-true a agent same i)))
      (λ differs. absurd (none-some (queue, agent) (sym (silent p (ties.waits) (ringing-waits q.queues q.agents a k number good rings))
      ∙ ties.talking agent queue (back agent queue number (sym (there agent differs) ∙ is)))));
  talks = λ agent queue is.
      let parts : (k ≡ queue) × (a ≡ agent) = some_pair_parts k queue a agent (sym is_with ∙ is) in
      ap (state_at beyond) (sym parts.1) ∙ here a (eq-eqb a a refl) ∙ ap (λ n. Talking n number) parts.0;
  still_talking = λ agent queue m differs is. by_test (a == agent)
      (λ same. absurd (apart number m differs (same_talking k number queue m (sym (here agent same) ∙ is)).1))
      (λ apart_from. back agent queue m (sym (there agent apart_from) ∙ is));
  still_talks = λ agent queue m differs is. by_test (a == agent)
      (λ same. absurd (ringing_not_talking k number queue m (sym rings ∙ ap (state_at q.agents) (eqb-true a agent same) ∙ is)))
      (λ apart_from. there agent apart_from ∙ state_at-idle_if_ringing number q.agents agent ∙ idle_if_ringing-talks number (state_at q.agents agent) queue m is);
}
  where
    beyond : List Agent
    beyond = with_state_at a (Talking k number) (all_freed number q.agents)

    within : a < length (all_freed number q.agents)
    within = let known : a < length q.agents = busy-within q.agents a (Ringing k number) rings refl in
        omega (arith, known, length-map q.agents (idle_if_ringing number))

    here : (b : ℕ) → (a == b) ≡ true → state_at beyond b ≡ Talking k number
    here b same = set_here (all_freed number q.agents) a (Talking k number) within b same

    there : (b : ℕ) → (a == b) ≡ false → state_at beyond b ≡ state_at (all_freed number q.agents) b
    there b differs = set_there (all_freed number q.agents) a (Talking k number) within b differs

    gone : (m : ℕ) → waits_in (changed_at (without_caller number) k q.queues) m ≡ (if number == m then None else waits_in q.queues m)
    gone m = waits_in-left q.queues number k m (good.waits_once number) (ringing-waits q.queues q.agents a k number good rings)

    back : (agent queue m : ℕ) → state_at (all_freed number q.agents) agent ≡ Talking queue m → state_at q.agents agent ≡ Talking queue m
    back agent queue m is = idle_if_ringing-talking number (state_at q.agents agent) queue m (sym (state_at-idle_if_ringing number q.agents agent) ∙ is)

    silent : (p : Phase) → waits_in q.queues number ≡ queue_in p → waits_in q.queues number ≡ Some k → talk_in p ≡ None
    silent Ready waits known = refl
    silent (Digits digits is_background) waits known = refl
    silent Pause waits known = refl
    silent (Queued queue goes_on has_timer) waits known = refl
    silent (PhaseTalking queue agent goes_on) waits known = absurd (none-some k (sym waits ∙ known))
    silent (Dialling goes_on has_timer) waits known = refl
    silent PhaseEnded waits known = refl
