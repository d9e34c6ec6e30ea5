-- A channel whose events change nothing that is shared, and a list of events without them.
use Rattle.std.specs.Prelude.{◌≡◌, ◌≢◌, ℕ, ◌==◌, Bool, true, false, not, Some, None, List, ◌∷◌, ◌++◌, length, map, filter}
use Rattle.std.specs.List.{zip}
use Rattle.dp_app.specs.Rows.{Meanings}
use Rattle.dp_machine.specs.Replay.{final_world, world_after}
use Rattle.dp_machine.specs.World.{World, channel_at}
use Rattle.dp_machine.specs.declared.event.Event.{Event}
use Rattle.dp_machine.specs.declared.event.Event.TheVariants.{Start, Step, Digit, Timeout, Poll, Hangup, DialResult, Offer, Answer, Decline, AgentDone, Reload, Assign, Redirect}
use Rattle.dp_machine.specs.declared.reply.Reply.{Reply}

-- whether an event belongs to the channel with a number; an incoming phone call belongs to no channel, nor does an event of an agent, a
-- reload, or a global that is set from outside
abbrev pub is_of : ℕ → Event → Bool
is_of number (Start context exten caller) = false
is_of number (Step channel) = channel == number
is_of number (Digit channel digit) = channel == number
is_of number (Timeout channel) = channel == number
is_of number (Poll channel) = channel == number
is_of number (Hangup channel) = channel == number
is_of number (DialResult channel status) = channel == number
is_of number (Offer queue) = false
is_of number (Answer agent) = false
is_of number (Decline agent) = false
is_of number (AgentDone agent) = false
is_of number (Reload text) = false
is_of number (Assign None name value) = false
is_of number (Assign (Some channel) name value) = channel == number
is_of number (Redirect channel place) = channel == number

-- an event of a channel is private in a world if it changes neither the dialplan nor what all channels share: the globals, the queues, the
-- agents, and the count of finished calls
pub record IsPrivate (meanings : Meanings) (w : World) (event : Event) : Type 0 where
  pub plan : (final_world meanings w event).plan ≡ w.plan
  pub shared : (final_world meanings w event).shared ≡ w.shared

-- the channel with a number is unseen in the events: each of its own events is private in the world that it meets
abbrev pub IsUnseen : Meanings → ℕ → World → List Event → Type 0
IsUnseen meanings number w events = (before : List Event) (event : Event) (later : List Event) → events ≡ before ++ event ∷ later
    → is_of number event ≡ true → IsPrivate meanings (world_after meanings w before) event

-- the events that do not belong to the channel with a number
abbrev pub without : ℕ → List Event → List Event
without number events = filter (λ event. not (is_of number event)) events

-- the replies to those events, among the replies to all events
abbrev pub replies_without : ℕ → List Event → List Reply → List Reply
replies_without number events replies = map (λ told. told.1) (filter (λ told. not (is_of number told.0)) (zip events replies))

-- two worlds differ only in the channel with a number
pub record AreSameBut (number : ℕ) (v w : World) : Type 0 where
  pub plan : v.plan ≡ w.plan
  pub shared : v.shared ≡ w.shared
  pub count : length v.channels ≡ length w.channels
  pub others : (other : ℕ) → other ≢ number → channel_at v.channels other ≡ channel_at w.channels other
