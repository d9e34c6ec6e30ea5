-- The invariant of a world: channels, waiting lists and agents agree on who waits and who talks.
use Rattle.std.specs.Prelude.{◌≡◌, ℕ, ◌≤◌, false, List, [], length, Option, Some, None}
use Rattle.std.specs.Option.{option_and_then}
use Rattle.dp_queue.specs.Agents.{is_talking, state_at}
use Rattle.dp_queue.specs.Good.{IsGood}
use Rattle.dp_queue.specs.Joining.{waits_in}
use Rattle.dp_queue.specs.Queues.{QueuesOf}
use Rattle.dp_queue.specs.declared.agent.AgentState.TheVariants.{Talking as AgentTalking}
use Rattle.dp_conf.specs.Numbers.{most_priority}
use Rattle.dp_app.specs.Rows.{Meanings}
use Rattle.dp_app.specs.declared.phase.Phase.{Phase}
use Rattle.dp_app.specs.declared.phase.Phase.TheVariants.{Ready, Digits, Pause, Queued, Talking, Dialling, Ended}
use Rattle.dp_machine.specs.Events.{Own, own_row, step_row}
use Rattle.dp_machine.specs.World.{World, most_channels, channel_at}
use Rattle.dp_machine.specs.declared.channel_event.ChannelEvent.{ChannelEvent}
use Rattle.dp_machine.specs.declared.channel_event.ChannelEvent.TheVariants.{Step as asked_step, Digit as asked_digit, Timeout as asked_timeout, Poll as asked_poll, Hangup as asked_hangup, DialResult as asked_result, Assign as asked_assign, Redirect as asked_redirect}
use Rattle.dp_machine.specs.declared.channel.Channel.{Channel}
use Rattle.dp_machine.specs.declared.event.Event.{Event}
use Rattle.dp_machine.specs.declared.event.Event.TheVariants.{Start, Step, Digit, Timeout, Poll, Hangup, DialResult, Offer, Answer, Decline, AgentDone, Reload, Assign, Redirect}
use Rattle.dp_machine.specs.declared.shared_state.SharedState.{SharedState}

-- the queue in which a channel waits, given its phase
abbrev pub queue_in : Phase → Option ℕ
queue_in Ready = None
queue_in (Digits digits is_background) = None
queue_in Pause = None
queue_in (Queued queue goes_on has_timer) = Some queue
queue_in (Talking queue agent goes_on) = None
queue_in (Dialling goes_on has_timer) = None
queue_in Ended = None

-- the queue and the agent with which a channel talks, given its phase
abbrev pub talk_in : Phase → Option (ℕ × ℕ)
talk_in Ready = None
talk_in (Digits digits is_background) = None
talk_in Pause = None
talk_in (Queued queue goes_on has_timer) = None
talk_in (Talking queue agent goes_on) = Some (queue, agent)
talk_in (Dialling goes_on has_timer) = None
talk_in Ended = None

-- a channel that waits or talks is at a priority of an entry and is not closing, and a channel that is over has no frames
abbrev pub IsSoundIn : Phase → Channel → Type 0
IsSoundIn Ready c = Unit {0}
IsSoundIn (Digits digits is_background) c = (c.place.priority ≤ most_priority) × (c.is_closing ≡ false)
IsSoundIn Pause c = (c.place.priority ≤ most_priority) × (c.is_closing ≡ false)
IsSoundIn (Queued queue goes_on has_timer) c = (c.place.priority ≤ most_priority) × (c.is_closing ≡ false)
IsSoundIn (Talking queue agent goes_on) c = (c.place.priority ≤ most_priority) × (c.is_closing ≡ false)
IsSoundIn (Dialling goes_on has_timer) c = (c.place.priority ≤ most_priority) × (c.is_closing ≡ false)
IsSoundIn Ended c = c.store.frames ≡ []

-- the channel with a number is sound, if there is one
abbrev pub IsSoundAt : Option Channel → Type 0
IsSoundAt None = Unit {0}
IsSoundAt (Some c) = IsSoundIn c.phase c

-- the channel after an event of its own is sound
abbrev pub IsSoundOwn : Own → Type 0
IsSoundOwn own = IsSoundIn own.channel.phase own.channel

-- the queue in which the channel with a number waits, given its phase
abbrev pub queue_of : Option Channel → Option ℕ
queue_of o = option_and_then (λ c. queue_in c.phase) o

-- the queue and the agent with which the channel with a number talks, given its phase
abbrev pub talk_of : Option Channel → Option (ℕ × ℕ)
talk_of o = option_and_then (λ c. talk_in c.phase) o

-- what is known of a channel before an event: it waits in its own queue only, no agent talks with it unless its phase says so, and it is
-- sound
pub record MayAct (shared : SharedState) (number : ℕ) (c : Channel) : Type 0 where
  pub waits : waits_in shared.queues.queues number ≡ queue_in c.phase
  pub silent : talk_in c.phase ≡ None → is_talking shared.queues.agents number ≡ false
  pub sound : IsSoundIn c.phase c

-- channels and queues agree: a channel is in a waiting list exactly if its phase says that it waits, an agent talks with it exactly if its
-- phase says that it talks, and each channel is sound
pub record AreTied (channels : List Channel) (queues : QueuesOf) : Type 0 where
  pub waits : (number : ℕ) → waits_in queues.queues number ≡ queue_of (channel_at channels number)
  pub talking : (agent queue number : ℕ) → state_at queues.agents agent ≡ AgentTalking queue number
      → talk_of (channel_at channels number) ≡ Some (queue, agent)
  pub talks : (agent queue number : ℕ) → talk_of (channel_at channels number) ≡ Some (queue, agent)
      → state_at queues.agents agent ≡ AgentTalking queue number
  pub sound : (number : ℕ) → IsSoundAt (channel_at channels number)

-- a good world: it has no more channels than there are numbers, and they agree with the queues, which are good themselves: a channel is
-- once in its waiting list and in no other, an agent rings only for a channel of the queue that it names, and talks with at most one
pub record IsGoodWorld (w : World) : Type 0 where
  pub within : length w.channels ≤ most_channels
  pub tied : AreTied w.channels w.shared.queues
  pub queues : IsGood w.shared.queues

-- if the event is a step, this channel is sound
abbrev pub IsSoundAfter : ChannelEvent → Channel → Type 0
IsSoundAfter asked_step c = IsSoundIn c.phase c
IsSoundAfter (asked_digit digit) c = Unit {0}
IsSoundAfter asked_timeout c = Unit {0}
IsSoundAfter asked_poll c = Unit {0}
IsSoundAfter asked_hangup c = Unit {0}
IsSoundAfter (asked_result status) c = Unit {0}
IsSoundAfter (asked_assign name value) c = Unit {0}
IsSoundAfter (asked_redirect place) c = Unit {0}

-- if the event is a step, the channel with a number is sound after it
abbrev pub IsSoundAsked : Meanings → World → ℕ → ChannelEvent → Type 0
IsSoundAsked meanings w number asked = (c : Channel) → channel_at w.channels number ≡ Some c
    → IsSoundAfter asked (own_row meanings asked w.plan w.shared number c).channel

-- if the event is a step, the channel is sound after it
abbrev pub StepsSoundly : Meanings → World → Event → Type 0
StepsSoundly meanings w (Start context exten caller) = Unit {0}
StepsSoundly meanings w (Step number) = (c : Channel) → channel_at w.channels number ≡ Some c → IsSoundOwn (step_row meanings w.plan w.shared number c)
StepsSoundly meanings w (Digit number digit) = Unit {0}
StepsSoundly meanings w (Timeout number) = Unit {0}
StepsSoundly meanings w (Poll number) = Unit {0}
StepsSoundly meanings w (Hangup number) = Unit {0}
StepsSoundly meanings w (DialResult number status) = Unit {0}
StepsSoundly meanings w (Offer queue) = Unit {0}
StepsSoundly meanings w (Answer agent) = Unit {0}
StepsSoundly meanings w (Decline agent) = Unit {0}
StepsSoundly meanings w (AgentDone agent) = Unit {0}
StepsSoundly meanings w (Reload text) = Unit {0}
StepsSoundly meanings w (Assign channel name value) = Unit {0}
StepsSoundly meanings w (Redirect number place) = Unit {0}
