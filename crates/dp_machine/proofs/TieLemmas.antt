-- Channels and queues still agree after a change of one channel and of the queues.
use Rattle.std.proofs.Common.{◌≡◌, ℕ, zero, suc, ◌-◌, ◌==◌, Bool, true, false, ◌||◌, List, [], ◌∷◌, Some, None, refl, sym, ap, ◌∙◌, arith, slice_get, subst, length, ◌≤◌, if◌then◌else◌}
use Rattle.std.specs.Prelude.{slice_set}
use Rattle.std.proofs.lemmas.Option.{none-some}
use Rattle.dp_queue.specs.Agents.{is_talking, state_at, talks_with}
use Rattle.dp_queue.specs.Joining.{waits_in}
use Rattle.dp_queue.specs.Queues.{QueuesOf}
use Rattle.dp_queue.specs.declared.agent.Agent.{Agent}
use Rattle.dp_queue.specs.declared.agent.AgentState.{AgentState}
use Rattle.dp_queue.specs.declared.agent.AgentState.TheVariants.{Idle, Ringing, Talking}
use Rattle.dp_app.specs.declared.phase.Phase.{Phase}
use Rattle.dp_machine.specs.GoodWorld.{AreTied, IsGoodWorld, IsSoundAt, IsSoundIn, MayAct, queue_in, queue_of, talk_in, talk_of}
use Rattle.dp_machine.specs.World.{World, channel_at, most_channels, with_channel}
use Rattle.dp_machine.specs.declared.channel.Channel.{Channel}
use borrow.Author.Tests.{eqb-true, eq-eqb}

-- a world with no more channels than there are numbers, which agree with the queues
pub record IsTiedWorld (w : World) : Type 0 where
  pub within : length w.channels ≤ most_channels
  pub tied : AreTied w.channels w.shared.queues

-- what holds for a number and for every other number holds for all
pub by_number : (P : ℕ → Type 0) (number m : ℕ) → P number → ((number == m) ≡ false → P m) → P m
by_number P number m here other = by (number == m) refl
  where
    by : (b : Bool) → (number == m) ≡ b → P m
    by true same = subst P (eqb-true number m same) here
    by false differs = other differs

-- numbers that differ by the test
pub apart : (a b : ℕ) → (a == b) ≡ false → a ≡ b → ⊥
apart a b differs same = let yes : (a == b) ≡ true = eq-eqb a b same in cc

module _ {X : Type 0} where
  -- the element at the place that was written
  get-set_same : (xs : List X) (i : ℕ) (x y : X) → slice_get xs i ≡ Some x → slice_get (slice_set xs i y) i ≡ Some y
  get-set_same [] i x y here = absurd (none-some x here)
  get-set_same (z ∷ xs) zero x y here = refl
  get-set_same (z ∷ xs) (suc i) x y here = get-set_same xs i x y here

  -- and at any other place
  get-set_other : (xs : List X) (i j : ℕ) (y : X) → (i ≡ j → ⊥) → slice_get (slice_set xs i y) j ≡ slice_get xs j
  get-set_other [] i j y other = refl
  get-set_other (z ∷ xs) zero zero y other = absurd (other refl)
  get-set_other (z ∷ xs) zero (suc j) y other = refl
  get-set_other (z ∷ xs) (suc i) zero y other = refl
  get-set_other (z ∷ xs) (suc i) (suc j) y other = get-set_other xs i j y (λ same. other (ap suc same))

  -- a write keeps the length
  pub length-set_at : (xs : List X) (i : ℕ) (y : X) → length (slice_set xs i y) ≡ length xs
  length-set_at [] i y = refl
  length-set_at (z ∷ xs) zero y = refl
  length-set_at (z ∷ xs) (suc i) y = ap suc (length-set_at xs i y)

-- the channel with a number after it was changed
pub channel_at-same : (channels : List Channel) (number : ℕ) (c d : Channel) → channel_at channels number ≡ Some c
    → channel_at (with_channel channels number d) number ≡ Some d
channel_at-same channels number c d here = by (number == 0) here
  where
    by : (b : Bool) → (if b then None else slice_get channels (number - 1)) ≡ Some c
        → (if b then None else slice_get (slice_set channels (number - 1) d) (number - 1)) ≡ Some d
    by true here = absurd (none-some c here)
    by false here = get-set_same channels (number - 1) c d here

-- and the channel with another number
pub channel_at-other : (channels : List Channel) (number m : ℕ) (c d : Channel) → channel_at channels number ≡ Some c
    → (number == m) ≡ false → channel_at (with_channel channels number d) m ≡ channel_at channels m
channel_at-other channels number m c d here differs = by (number == 0) (m == 0) refl refl here
  where
    by : (b e : Bool) → (number == 0) ≡ b → (m == 0) ≡ e → (if b then None else slice_get channels (number - 1)) ≡ Some c
        → (if e then None else slice_get (slice_set channels (number - 1) d) (m - 1)) ≡ (if e then None else slice_get channels (m - 1))
    by true e zero_is is_zero here = absurd (none-some c here)
    by false true zero_is is_zero here = refl
    by false false zero_is is_zero here = get-set_other channels (number - 1) (m - 1) d
        (λ same. apart number m differs (positions (apart number 0 zero_is) (apart m 0 is_zero) same))
      where
        positions : (number ≡ 0 → ⊥) → (m ≡ 0 → ⊥) → number - 1 ≡ m - 1 → number ≡ m
        positions not_zero is_not same = omega (arith, not_zero, is_not, same)

-- if no agent talks with a channel by its state, none talks with it
is_talking-none_of : (agents : List Agent) (c : ℕ) → ((a : ℕ) → talks_with c (state_at agents a) ≡ false) → is_talking agents c ≡ false
is_talking-none_of [] c none = refl
is_talking-none_of (a ∷ agents) c none = (λ i. none 0 i || is_talking-none_of agents c (λ b. none (suc b)) i)

-- in a good world the facts on a channel before an event hold
pub may_act : (w : World) (number : ℕ) (c : Channel) → IsGoodWorld w → channel_at w.channels number ≡ Some c → MayAct w.shared number c
may_act w number c good here = record {
  waits = good.tied.waits number ∙ ap queue_of here;
  silent = λ none. is_talking-none_of w.shared.queues.agents number (λ a. by_state none a (state_at w.shared.queues.agents a) refl);
  sound = subst IsSoundAt here (good.tied.sound number);
}
  where
    by_state : talk_in c.phase ≡ None → (a : ℕ) (s : AgentState) → state_at w.shared.queues.agents a ≡ s → talks_with number s ≡ false
    by_state none a Idle is = refl
    by_state none a (Ringing queue d) is = refl
    by_state none a (Talking queue d) is = by (d == number) refl
      where
        by : (b : Bool) → (d == number) ≡ b → b ≡ false
        by true same = absurd (none-some (queue, a) (sym none ∙ sym (ap talk_of here)
            ∙ ap (λ n. talk_of (channel_at w.channels n)) (sym (eqb-true d number same)) ∙ good.tied.talking a queue d is))
        by false differs = refl

-- queues after a change that concerns only the channel with a number: it waits and talks as this phase says, and the others as before
pub record Ties (number : ℕ) (before after : QueuesOf) (phase : Phase) : Type 0 where
  pub waits : waits_in after.queues number ≡ queue_in phase
  pub others : (m : ℕ) → (number == m) ≡ false → waits_in after.queues m ≡ waits_in before.queues m
  pub talking : (agent queue : ℕ) → state_at after.agents agent ≡ Talking queue number → talk_in phase ≡ Some (queue, agent)
  pub talks : (agent queue : ℕ) → talk_in phase ≡ Some (queue, agent) → state_at after.agents agent ≡ Talking queue number
  pub still_talking : (agent queue m : ℕ) → (number == m) ≡ false → state_at after.agents agent ≡ Talking queue m
      → state_at before.agents agent ≡ Talking queue m
  pub still_talks : (agent queue m : ℕ) → (number == m) ≡ false → state_at before.agents agent ≡ Talking queue m
      → state_at after.agents agent ≡ Talking queue m

-- channels and queues still agree if a channel gets such a phase and is sound in it
pub tied-changed : (channels : List Channel) (number : ℕ) (c d : Channel) (before after : QueuesOf) → channel_at channels number ≡ Some c
    → Ties number before after d.phase → IsSoundIn d.phase d → AreTied channels before → AreTied (with_channel channels number d) after
tied-changed channels number c d before after here ties sound tied = record {
  waits = λ m. by_number (λ n. waits_in after.queues n ≡ queue_of (channel_at new n)) number m
      (ties.waits ∙ sym (ap queue_of same)) (λ differs. ties.others m differs ∙ tied.waits m ∙ sym (ap queue_of (other m differs)));
  talking = λ agent queue m. by_number (λ n. state_at after.agents agent ≡ Talking queue n → talk_of (channel_at new n) ≡ Some (queue, agent)) number m
      (λ is. ap talk_of same ∙ ties.talking agent queue is)
      (λ differs is. ap talk_of (other m differs) ∙ tied.talking agent queue m (ties.still_talking agent queue m differs is));
  talks = λ agent queue m. by_number (λ n. talk_of (channel_at new n) ≡ Some (queue, agent) → state_at after.agents agent ≡ Talking queue n) number m
      (λ is. ties.talks agent queue (sym (ap talk_of same) ∙ is))
      (λ differs is. ties.still_talks agent queue m differs (tied.talks agent queue m (sym (ap talk_of (other m differs)) ∙ is)));
  sound = λ m. by_number (λ n. IsSoundAt (channel_at new n)) number m
      (subst IsSoundAt (sym same) sound) (λ differs. subst IsSoundAt (sym (other m differs)) (tied.sound m));
}
  where
    new : List Channel
    new = with_channel channels number d

    same : channel_at new number ≡ Some d
    same = channel_at-same channels number c d here

    other : (m : ℕ) → (number == m) ≡ false → channel_at new m ≡ channel_at channels m
    other m differs = channel_at-other channels number m c d here differs
