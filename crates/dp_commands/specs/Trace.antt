-- The trace: one line for each turn. An event's line has the reply and then the channel's state, and a `show` line has a value.
use Rattle.std.specs.Prelude.{ℕ, Bool, false, ◌||◌, ◌==◌, List, [], ◌∷◌, ◌++◌, fold, Option, Some, None, is_none, slice_get, codes, decimal, if◌then◌else◌}
use Rattle.std.specs.Option.{option_map, unwrap_or}
use Rattle.dp_pattern.specs.Spelling.{spelling}
use Rattle.dp_plan.specs.Contexts.{PlanContext}
use Rattle.dp_plan.specs.Plan.{PlanOf}
use Rattle.dp_plan.specs.declared.entry.Entry.{Entry}
use Rattle.dp_plan.specs.declared.entry.EntryId.{EntryId}
use Rattle.dp_machine.specs.Codes.{refusal_code, refusal_name}
use Rattle.dp_machine.specs.Events.{channel_of, event_row, is_refused}
use Rattle.dp_machine.specs.Replay.{final_world}
use Rattle.dp_machine.specs.World.{World, channel_at, value_in}
use Rattle.dp_app.specs.Rows.{Meanings}
use Rattle.dp_app.specs.declared.place.Place.{Place}
use Rattle.dp_app.specs.declared.phase.Phase.{Phase}
use Rattle.dp_app.specs.declared.phase.Phase.TheVariants.{Ready, Digits, Pause, Queued, Talking, Dialling, Ended}
use Rattle.dp_queue.specs.Queues.{QueuesOf}
use Rattle.dp_table.specs.Standard.{standard_meanings}
use Rattle.dp_machine.specs.declared.event.Event.{Event}
use Rattle.dp_machine.specs.declared.refusal.Refusal.{Refusal}
use Rattle.dp_machine.specs.declared.refusal.Refusal.TheVariants.{NoChannel}
use Rattle.dp_machine.specs.declared.reply.Reply.{Reply}
use Rattle.dp_machine.specs.declared.reply.Reply.TheVariants.{Started, Ran, Invalid, NoEntry, Offered, Done, Refused}
use Rattle.dp_commands.specs.declared.script.Turn.{Turn}
use Rattle.dp_commands.specs.declared.script.Turn.TheVariants.{Event as turn_event, Show}

-- a place, `CONTEXT,EXTEN,PRIORITY`
abbrev pub place_text : List ℕ → List ℕ → ℕ → List ℕ
place_text context exten priority = context ++ codes "," ++ exten ++ codes "," ++ decimal priority

-- the name of the queue with a number
abbrev pub queue_name : QueuesOf → ℕ → List ℕ
queue_name queues number = unwrap_or (option_map (λ queue. queue.name) (slice_get queues.queues number)) []

-- the name of the agent with a number
abbrev pub agent_name : QueuesOf → ℕ → List ℕ
agent_name queues number = unwrap_or (option_map (λ agent. agent.name) (slice_get queues.agents number)) []

-- the state of a channel that is ready at a place
abbrev pub ready_text : Option Place → List ℕ
ready_text None = []
ready_text (Some place) = codes "ready " ++ place_text place.context place.exten place.priority

-- the state of a channel, given its phase and its place
abbrev pub state_by : QueuesOf → Option Phase → Option Place → List ℕ
state_by queues None place = []
state_by queues (Some Ready) place = ready_text place
state_by queues (Some (Digits digits is_background)) place = codes "digits"
state_by queues (Some Pause) place = codes "pause"
state_by queues (Some (Queued queue goes_on has_timer)) place = codes "queued " ++ queue_name queues queue
state_by queues (Some (Talking queue agent goes_on)) place =
    codes "talking " ++ queue_name queues queue ++ codes " " ++ agent_name queues agent
state_by queues (Some (Dialling goes_on has_timer)) place = codes "dialling"
state_by queues (Some Ended) place = codes "ended"

-- the phase of the channel with a number, if there is one
abbrev pub phase_at : World → ℕ → Option Phase
phase_at w number = option_map (λ c. c.phase) (channel_at w.channels number)

-- the state of the channel with a number
unfoldable pub state_text : World → ℕ → List ℕ
state_text w number =
    state_by w.shared.queues (phase_at w number) (option_map (λ c. c.place) (channel_at w.channels number))

-- an entry of a context, `CONTEXT,NAME,PRIORITY APP`, with its name in canonical spelling
abbrev pub entry_by : PlanContext → Option Entry → List ℕ
entry_by context None = []
entry_by context (Some entry) = place_text context.name (spelling entry.name) entry.priority ++ codes " " ++ entry.application

abbrev pub entry_in : ℕ → Option PlanContext → List ℕ
entry_in number None = []
entry_in number (Some context) = entry_by context (slice_get context.entries number)

-- the entry of a dialplan with these numbers
unfoldable pub entry_text : PlanOf → EntryId → List ℕ
entry_text plan id = entry_in id.entry (slice_get plan.contexts id.context)

-- a refusal, `refused CODE NAME`
abbrev pub refusal_text : Refusal → List ℕ
refusal_text refusal = codes "refused " ++ decimal (refusal_code refusal) ++ codes " " ++ refusal_name refusal

-- the text after the reply to an event that was taken, given the number of the channel that the event names; an agent's event and a reload
-- name none
abbrev pub done_text : World → ℕ → List ℕ
done_text w number =
    if number == 0 then codes "ok" else codes "ok " ++ decimal number ++ codes " -> " ++ state_text w number

-- the line of a reply to an event of the channel with a number, given the world after the event
abbrev pub reply_text : World → ℕ → Reply → List ℕ
reply_text w number (Started channel) = codes "started " ++ decimal channel
reply_text w number (Ran id) =
    codes "ran " ++ decimal number ++ codes " " ++ entry_text w.plan id ++ codes " -> " ++ state_text w number
reply_text w number NoEntry = codes "no entry " ++ decimal number ++ codes " -> " ++ state_text w number
reply_text w number Invalid = codes "invalid " ++ decimal number ++ codes " -> " ++ state_text w number
reply_text w number (Offered channel rung) = codes "offered " ++ decimal channel ++ codes " " ++ decimal rung
reply_text w number Done = done_text w number
reply_text w number (Refused refusal) = refusal_text refusal

-- the line of an event in the world that it meets, given what names mean
unfoldable pub event_line_by : Meanings → World → Event → List ℕ
event_line_by meanings w event =
    reply_text (final_world meanings w event) (channel_of event) (event_row meanings w event).1 ++ 10 ∷ []

-- the line of an event in the world that it meets, given what names mean in this program
abbrev pub event_line : World → Event → List ℕ
event_line w event = event_line_by standard_meanings w event

-- the line of a `show` of a name, given the channel's phase, if there is a channel
abbrev pub show_by : World → ℕ → List ℕ → Option Phase → List ℕ
show_by w number name None = refusal_text NoChannel
show_by w number name (Some phase) = name ++ codes "=" ++ value_in w number name

-- the line of a `show` of a name in the channel with a number: `NAME=VALUE`, or the refusal if no channel has the number
unfoldable pub show_text : World → ℕ → List ℕ → List ℕ
show_text w number name = show_by w number name (phase_at w number)

-- how a turn changes a world, its line, and whether it is refused
pub record Turned : Type 0 where
  pub world : World
  pub line : List ℕ
  pub refused : Bool

abbrev pub after_turn_by : Meanings → World → Turn → Turned
after_turn_by meanings w (turn_event event) =
    record {
      world = final_world meanings w event;
      line = event_line_by meanings w event;
      refused = is_refused (event_row meanings w event).1;
    }
after_turn_by meanings w (Show number name) =
    record { world = w; line = show_text w number name ++ 10 ∷ []; refused = is_none (phase_at w number) }

-- how a turn changes a world, given what names mean in this program
abbrev pub after_turn : World → Turn → Turned
after_turn w turn = after_turn_by standard_meanings w turn

-- the trace of a list of turns from a world, given what names mean
abbrev pub trace_by : Meanings → World → List Turn → List ℕ
trace_by meanings w [] = []
trace_by meanings w (turn ∷ turns) =
    (after_turn_by meanings w turn).line ++ trace_by meanings (after_turn_by meanings w turn).world turns

-- the trace of a list of turns from a world, given what names mean in this program
abbrev pub trace_of : World → List Turn → List ℕ
trace_of w turns = trace_by standard_meanings w turns

-- whether a turn is refused, given what names mean
abbrev pub any_refused_by : Meanings → World → List Turn → Bool
any_refused_by meanings w [] = false
any_refused_by meanings w (turn ∷ turns) =
    (after_turn_by meanings w turn).refused || any_refused_by meanings (after_turn_by meanings w turn).world turns

-- whether a turn is refused, given what names mean in this program
abbrev pub any_refused : World → List Turn → Bool
any_refused w turns = any_refused_by standard_meanings w turns
