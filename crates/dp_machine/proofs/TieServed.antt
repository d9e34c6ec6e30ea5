-- The world stays good after the events of agents.
use Rattle.std.proofs.Common.{◌≡◌, ℕ, ◌-◌, ◌≤◌, Bool, true, false, List, Option, Some, None, refl, sym, ap, ◌∙◌, arith, subst}
use Rattle.std.proofs.lemmas.Option.{none-some}
use Rattle.dp_queue.specs.Agents.{agent_number, state_at}
use Rattle.dp_queue.specs.Calls.{answer_row_at, after_answer as answered_queues, call_of, decline_row, done_row_at, after_talk as queues_after_talk}
use Rattle.dp_queue.specs.Good.{IsGood}
use Rattle.dp_queue.specs.Offers.{offer_row}
use Rattle.dp_queue.specs.declared.agent.AgentState.{AgentState}
use Rattle.dp_queue.specs.declared.agent.AgentState.TheVariants.{Idle, Ringing, Talking}
use Rattle.dp_queue.proofs.GoodLemmas.{ringing-waits}
use Rattle.dp_plan.specs.Plan.{PlanOf}
use Rattle.dp_conf.specs.Numbers.{most_priority}
use Rattle.dp_app.specs.declared.phase.Phase.{Phase}
use Rattle.dp_app.specs.declared.phase.Phase.TheVariants.{Ready, Digits, Pause, Queued, Talking as PhaseTalking, Dialling, Ended}
use Rattle.dp_machine.specs.Channels.{goes_on_after, after_talk}
use Rattle.dp_machine.specs.Events.{agent_done, agent_event, serve_answer, serve_decline, begin_talk, serve_offer, end_talk, served_channels, with_queues}
use Rattle.dp_machine.specs.GoodWorld.{IsSoundAt, IsSoundIn, queue_in, queue_of, talk_of}
use Rattle.dp_machine.specs.World.{World, channel_at, with_channel}
use Rattle.dp_machine.specs.declared.channel.Channel.{Channel}
use Rattle.dp_machine.specs.declared.shared_state.SharedState.{SharedState}
use Rattle.dp_machine.proofs.TieLemmas.{IsTiedWorld, Ties, length-set_at, tied-changed}
use Rattle.dp_machine.proofs.TieOffers.{same-declined, same-offered}
use Rattle.dp_machine.proofs.TieQueues.{ties-after_answer, ties-after_talk, ties-self, tied-same}
use Rattle.dp_machine.proofs.TieRows.{IsQuiet, hung_up-quiet}

-- a channel changes, is still sound and agrees with the queues
pub good-changed : (w : World) (number : ℕ) (c d : Channel) (shared : SharedState) → IsTiedWorld w → channel_at w.channels number ≡ Some c
    → Ties number w.shared.queues shared.queues d.phase → IsSoundIn d.phase d
    → IsTiedWorld (record w { channels = with_channel w.channels number d; shared = shared })
good-changed w number c d shared good here ties sound = record {
  within = omega (arith, good.within, length-set_at w.channels (number - 1) d);
  tied = tied-changed w.channels number c d w.shared.queues shared.queues here ties sound good.tied;
}

-- an offer
pub good-serve_offer : (w : World) (queue : List ℕ) → IsTiedWorld w → IsTiedWorld (agent_event w (serve_offer w.shared queue)).0
unfolding serve_offer
good-serve_offer w queue good = record {
  within = good.within;
  tied = tied-same w.channels w.shared.queues (offer_row w.shared.queues queue).0 (same-offered w.shared.queues queue) good.tied;
}

-- an agent declines
pub good-serve_decline : (w : World) (agent : List ℕ) → IsTiedWorld w → IsTiedWorld (agent_event w (serve_decline w.shared agent)).0
unfolding serve_decline
good-serve_decline w agent good = record {
  within = good.within;
  tied = tied-same w.channels w.shared.queues (decline_row w.shared.queues agent).0 (same-declined w.shared.queues agent) good.tied;
}

-- a channel that waits in a queue is sound in a talk too
talks-sound : (c : Channel) (p : Phase) (k : ℕ) → queue_in p ≡ Some k → IsSoundIn p c → (c.place.priority ≤ most_priority) × (c.is_closing ≡ false)
talks-sound c Ready k waits sound = absurd (none-some k waits)
talks-sound c (Digits digits is_background) k waits sound = sound
talks-sound c Pause k waits sound = sound
talks-sound c (Queued queue goes_on has_timer) k waits sound = sound
talks-sound c (PhaseTalking queue agent goes_on) k waits sound = sound
talks-sound c (Dialling goes_on has_timer) k waits sound = sound
talks-sound c Ended k waits sound = absurd (none-some k waits)

-- a channel whose talk ends is sound, and neither waits nor talks
after_talk-quiet : (plan : PlanOf) (c : Channel) (goes_on : Bool) → IsQuiet (after_talk plan c goes_on)
after_talk-quiet plan c true = ((refl, refl), tt)
after_talk-quiet plan c false = hung_up-quiet plan c

module _ (w : World) (good : IsTiedWorld w) (linked : IsGood w.shared.queues) where
  -- an agent in this state answers
  serve_answer-good : (a : ℕ) (s : AgentState) → state_at w.shared.queues.agents a ≡ s
      → IsTiedWorld (agent_event w (begin_talk (with_queues w.shared (answer_row_at w.shared.queues a s).0) (answer_row_at w.shared.queues a s).1)).0
  serve_answer-good a Idle is = record { within = good.within; tied = good.tied }
  serve_answer-good a (Talking k number) is = record { within = good.within; tied = good.tied }
  serve_answer-good a (Ringing k number) is = by (channel_at w.channels number) refl
    where
      after : SharedState
      after = with_queues w.shared (answered_queues w.shared.queues a k number)

      waits : (o : Option Channel) → channel_at w.channels number ≡ o → queue_of o ≡ Some k
      waits o here = sym (ap queue_of here) ∙ sym (good.tied.waits number) ∙ ringing-waits w.shared.queues.queues w.shared.queues.agents a k number linked is

      by : (o : Option Channel) → channel_at w.channels number ≡ o
          → IsTiedWorld (record w { channels = served_channels w (begin_talk after (Some (call_of k a number))) o; shared = after })
      by None here = absurd (none-some k (waits None here))
      by (Some c) here = good-changed w number c (record c { phase = PhaseTalking k a (goes_on_after c.phase) }) after good here
          (ties-after_answer number a k w.shared.queues c.phase (PhaseTalking k a (goes_on_after c.phase)) linked
          (ties-self w.channels w.shared.queues number c good.tied here) is refl refl)
          (talks-sound c c.phase k (waits (Some c) here) (subst IsSoundAt here (good.tied.sound number)))

  -- an agent answers
  pub good-serve_answer : (agent : List ℕ) → IsTiedWorld (agent_event w (serve_answer w.shared agent)).0
  unfolding serve_answer
  good-serve_answer agent = serve_answer-good (agent_number w.shared.queues.agents agent)
      (state_at w.shared.queues.agents (agent_number w.shared.queues.agents agent)) refl

  -- an agent in this state is done
  done-good : (a : ℕ) (s : AgentState) → state_at w.shared.queues.agents a ≡ s
      → IsTiedWorld (agent_event w (end_talk (with_queues w.shared (done_row_at w.shared.queues a s).0) (done_row_at w.shared.queues a s).1)).0
  done-good a Idle is = record { within = good.within; tied = good.tied }
  done-good a (Ringing k number) is = record { within = good.within; tied = good.tied }
  done-good a (Talking k number) is = by (channel_at w.channels number) refl
    where
      after : SharedState
      after = with_queues w.shared (queues_after_talk w.shared.queues a k)

      by : (o : Option Channel) → channel_at w.channels number ≡ o
          → IsTiedWorld (record w { channels = served_channels w (end_talk after (Some (call_of k a number))) o; shared = after })
      by None here = absurd (none-some (k, a) (sym (ap talk_of here) ∙ good.tied.talking a k number is))
      by (Some c) here = good-changed w number c (after_talk w.plan c (goes_on_after c.phase)) after good here
          (ties-after_talk number a k w.shared.queues c.phase (after_talk w.plan c (goes_on_after c.phase)).phase linked
          (ties-self w.channels w.shared.queues number c good.tied here) is (after_talk-quiet w.plan c (goes_on_after c.phase)).0)
          (after_talk-quiet w.plan c (goes_on_after c.phase)).1

  -- an agent is done
  pub good-agent_done : (agent : List ℕ) → IsTiedWorld (agent_event w (agent_done w.shared agent)).0
  unfolding agent_done
  good-agent_done agent = done-good (agent_number w.shared.queues.agents agent)
      (state_at w.shared.queues.agents (agent_number w.shared.queues.agents agent)) refl
