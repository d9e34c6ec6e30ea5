-- The breaks that hold before an event.
use Rattle.std.specs.Prelude.{ℕ, Bool, true, false, ◌&&◌, ◌==◌, List, Option, Some, None}
use Rattle.std.specs.List.{position}
use Rattle.dp_conf.specs.Words.{same_text, same_word}
use Rattle.dp_app.specs.declared.phase.Phase.{Phase}
use Rattle.dp_app.specs.declared.phase.Phase.TheVariants.{Ready, Digits, Pause, Queued, Talking, Dialling, Ended}
use Rattle.dp_app.specs.declared.place.Place.{Place}
use Rattle.dp_plan.specs.Lookup.{entry_at}
use Rattle.dp_plan.specs.Plan.{PlanOf}
use Rattle.dp_plan.specs.declared.entry.EntryId.{EntryId}
use Rattle.dp_plan.specs.declared.entry.Entry.{Entry}
use Rattle.dp_machine.specs.Events.{next_entry}
use Rattle.dp_machine.specs.World.{World, channel_at}
use Rattle.dp_machine.specs.declared.channel.Channel.{Channel}
use Rattle.dp_machine.specs.declared.event.Event.{Event}
use Rattle.dp_machine.specs.declared.event.Event.TheVariants.{Start, Step, Digit, Timeout, Poll, Hangup, DialResult, Offer, Answer, Decline, AgentDone, Reload, Assign, Redirect}
use Rattle.dp_debug.specs.declared.breaks.Break.{Break}
use Rattle.dp_debug.specs.declared.breaks.Break.TheVariants.{At, App}

-- whether two places are the same: they have the same bytes, including dashes, and the same priority
abbrev pub same_place : Place → Place → Bool
same_place a b = same_text a.context b.context && same_text a.exten b.exten && a.priority == b.priority

-- whether a channel is ready
abbrev pub is_ready : Phase → Bool
is_ready Ready = true
is_ready (Digits digits is_background) = false
is_ready Pause = false
is_ready (Queued queue goes_on has_timer) = false
is_ready (Talking queue agent goes_on) = false
is_ready (Dialling goes_on has_timer) = false
is_ready Ended = false

-- whether a channel is ready at a place
abbrev pub stands_at : Option Channel → Place → Bool
stands_at None place = false
stands_at (Some c) place = is_ready c.phase && same_place c.place place

-- whether an entry has the application, in any ASCII case
abbrev pub has_application : Option Entry → List ℕ → Bool
has_application None name = false
has_application (Some entry) name = same_word entry.application name

-- whether the entry with these numbers has the application
abbrev pub runs_at : PlanOf → Option EntryId → List ℕ → Bool
runs_at plan None name = false
runs_at plan (Some id) name = has_application (entry_at plan id) name

-- whether a break names an application
abbrev pub names_app : Break → Bool
names_app (At place) = false
names_app (App name) = true

-- whether a break holds before a step of the channel with a number that would run this entry: the channel is ready at that place, or the
-- entry has that application
abbrev pub holds_at : World → ℕ → Option EntryId → Break → Bool
holds_at w number entry (At place) = stands_at (channel_at w.channels number) place
holds_at w number entry (App name) = runs_at w.plan entry name

-- whether a break holds before a step of the channel with a number
abbrev pub holds_for : World → ℕ → Break → Bool
holds_for w number held = holds_at w number (next_entry w number) held

-- the first break that holds before a step of the channel with a number
unfoldable pub first_for : World → ℕ → List Break → Option ℕ
first_for w number breaks = position (holds_for w number) breaks

-- the first break that holds before an event; only a step can have one
abbrev pub first_before : World → Event → List Break → Option ℕ
first_before w (Start context exten caller) breaks = None
first_before w (Step number) breaks = first_for w number breaks
first_before w (Digit number digit) breaks = None
first_before w (Timeout number) breaks = None
first_before w (Poll number) breaks = None
first_before w (Hangup number) breaks = None
first_before w (DialResult number status) breaks = None
first_before w (Offer queue) breaks = None
first_before w (Answer agent) breaks = None
first_before w (Decline agent) breaks = None
first_before w (AgentDone agent) breaks = None
first_before w (Reload text) breaks = None
first_before w (Assign channel name value) breaks = None
first_before w (Redirect number place) breaks = None
