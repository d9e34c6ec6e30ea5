-- The log of a shared world: the world, and the calls that led to it.
use Rattle.std.specs.Prelude.{◌≡◌, ℕ, ◌+◌, ◌<◌, Bool, true, false, List, [], map, Option, Some, None, All}
use Rattle.dp_app.specs.Rows.{Meanings}
use Rattle.dp_app.specs.declared.phase.Phase.{Phase}
use Rattle.dp_app.specs.declared.phase.Phase.TheVariants.{Ready, Digits, Pause, Queued, Talking, Dialling, Ended}
use Rattle.dp_queue.specs.Queues.{no_queues}
use Rattle.dp_machine.specs.Events.{event_row}
use Rattle.dp_machine.specs.Replay.{replies_to, world_after}
use Rattle.dp_machine.specs.World.{World, channel_at, opening}
use Rattle.dp_machine.specs.declared.channel.Channel.{Channel}
use Rattle.dp_machine.specs.declared.event.Event.{Event}
use Rattle.dp_machine.specs.declared.reply.Reply.{Reply}
use Rattle.dp_board.specs.declared.entry.Entry.{Entry}

-- the world, and the calls so far in their order
pub record Log : Type 0 where
  pub world : World
  pub entries : List Entry

-- the events of the calls
abbrev pub events_in : List Entry → List Event
events_in entries = map (λ entry. entry.event) entries

-- the replies to the calls
abbrev pub replies_in : List Entry → List Reply
replies_in entries = map (λ entry. entry.reply) entries

-- the world and the replies come from the events, one after another, starting from the opening world
pub record Replays (meanings : Meanings) (first : World) (log : Log) : Type 0 where
  pub world : log.world ≡ world_after meanings first (events_in log.entries)
  pub replies : replies_in log.entries ≡ replies_to meanings first (events_in log.entries)

-- one event leads from the world of one log to that of another, with this reply
abbrev pub IsRow : Meanings → Log → Event → Reply → Log → Type 0
IsRow meanings before event reply after = event_row meanings before.world event ≡ (after.world, reply)

-- each call belongs to a seat of a ledger with so many parts, one of which belongs to no seat
abbrev pub AreSeated : ℕ → List Entry → Type 0
AreSeated parts entries = All (λ entry. entry.seat + 1 < parts) entries

-- whether a channel in this phase waits for something other than its next step
abbrev pub is_parked_in : Phase → Bool
is_parked_in Ready = false
is_parked_in (Digits text is_background) = true
is_parked_in Pause = true
is_parked_in (Queued queue goes_on has_timer) = true
is_parked_in (Talking queue agent goes_on) = true
is_parked_in (Dialling goes_on has_timer) = true
is_parked_in Ended = false

-- whether a channel, if there is one, waits for something other than its next step
abbrev pub is_parked_at : Option Channel → Bool
is_parked_at None = false
is_parked_at (Some channel) = is_parked_in channel.phase

-- whether the channel with a number exists and waits for something other than its next step
abbrev pub is_parked : Log → ℕ → Bool
is_parked log number = is_parked_at (channel_at log.world.channels number)

-- whether a channel in this phase has ended
abbrev pub has_ended_in : Phase → Bool
has_ended_in Ready = false
has_ended_in (Digits text is_background) = false
has_ended_in Pause = false
has_ended_in (Queued queue goes_on has_timer) = false
has_ended_in (Talking queue agent goes_on) = false
has_ended_in (Dialling goes_on has_timer) = false
has_ended_in Ended = true

-- whether a channel, if there is one, has ended
abbrev pub has_ended_at : Option Channel → Bool
has_ended_at None = false
has_ended_at (Some channel) = has_ended_in channel.phase

-- whether the channel with a number exists and has ended
abbrev pub has_ended : Log → ℕ → Bool
has_ended log number = has_ended_at (channel_at log.world.channels number)

-- the world with an empty dialplan and no queues in which nothing has happened yet
abbrev pub nothing_yet : World
nothing_yet = opening (record { globals = []; contexts = [] }) no_queues
