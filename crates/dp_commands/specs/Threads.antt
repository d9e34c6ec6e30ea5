-- Runs in threads: the phone calls that start before the board opens, and the events of each seat.
use Rattle.std.specs.Prelude.{◌≡◌, ℕ, ◌+◌, ◌<◌, ◌%◌, ◌==◌, Bool, true, false, ◌&&◌, ◌||◌, ◌⊎◌, List, [], ◌∷◌, ◌++◌, length, map, take, drop, Option, None, is_none, Result, Ok, Err, All, codes, decimal, if◌then◌else◌}
use Rattle.std.specs.Io.KnownBytes.{Appends}
use Rattle.std.specs.List.{flat_map, list_any, prefix_len}
use Rattle.dp_board.specs.Difference.{told_to}
use Rattle.dp_board.specs.Log.{Log, Replays}
use Rattle.dp_board.specs.declared.seat_call.SeatCall.{SeatCall}
use Rattle.dp_board.specs.declared.fault.SettleFault.{SettleFault}
use Rattle.dp_board.specs.declared.fault.SettleFault.TheVariants.{SeatMissing, Differs, NoMemory as settle_no_memory}
use Rattle.dp_conf.specs.Fronts.{AppendsFront}
use Rattle.dp_machine.specs.Events.{is_refused}
use Rattle.dp_machine.specs.Replay.{replies_to, world_after}
use Rattle.dp_machine.specs.World.{World}
use Rattle.dp_machine.specs.declared.event.Event.{Event}
use Rattle.dp_machine.specs.declared.event.Event.TheVariants.{Start, Step, Digit, Timeout, Poll, Hangup, DialResult, Offer, Answer, Decline, AgentDone, Reload, Assign, Redirect}
use Rattle.dp_table.specs.Standard.{standard_meanings}
use Rattle.dp_commands.specs.Run.{Run, status_by}
use Rattle.dp_commands.specs.declared.fault.Code.TheVariants.{Line, Name, Plan, QueueLine, Queue, ReadFailed, TooLong, WriteFailed, Settle, BadScript, BadBreak}
use Rattle.dp_commands.specs.declared.fault.PbxFault.{PbxFault}
use Rattle.dp_commands.specs.declared.fault.PbxFault.TheVariants.{Coded, NoMemory}
use Rattle.dp_commands.specs.declared.script.Turn.{Turn}
use Rattle.dp_commands.specs.declared.script.Turn.TheVariants.{Event as turn_event, Show}

-- the event of a turn; a `show` has none
abbrev pub event_in : Turn → List Event
event_in (turn_event event) = event ∷ []
event_in (Show channel name) = []

-- the events of a list of turns
abbrev pub events_in : List Turn → List Event
events_in turns = flat_map event_in turns

-- whether an event is an incoming phone call
abbrev pub is_start : Event → Bool
is_start (Start context exten caller) = true
is_start (Step channel) = false
is_start (Digit channel digit) = false
is_start (Timeout channel) = false
is_start (Poll channel) = false
is_start (Hangup channel) = false
is_start (DialResult channel status) = false
is_start (Offer queue) = false
is_start (Answer agent) = false
is_start (Decline agent) = false
is_start (AgentDone agent) = false
is_start (Reload text) = false
is_start (Assign channel name value) = false
is_start (Redirect channel place) = false

-- the incoming phone calls before any other event
abbrev pub leading_calls : List Event → List Event
leading_calls events = take (prefix_len is_start events) events

-- the events after those phone calls
abbrev pub shared_events : List Event → List Event
shared_events events = drop (prefix_len is_start events) events

-- the items of one seat when `count` seats take turns; the first item has the place `at`
abbrev pub dealt_from : {X : Type 0} → ℕ → ℕ → ℕ → List X → List X
dealt_from count seat at [] = []
dealt_from count seat at (x ∷ xs) =
    if at % count == seat then x ∷ dealt_from count seat (at + 1) xs else dealt_from count seat (at + 1) xs

-- the items of one seat when `count` seats take turns: those at the places `seat`, `seat + count`, `seat + 2 * count`, and so on
abbrev pub items_of_seat : {X : Type 0} → ℕ → ℕ → List X → List X
items_of_seat count seat xs = dealt_from count seat 0 xs

-- the events of a seat's calls
abbrev pub events_told : List SeatCall → List Event
events_told told = map (λ call. call.event) told

-- a history of events dealt to `count` seats: it replays from the first world, each seat's entries are its own events in their order, and
-- there are as many entries as events
pub record IsDealt (first : World) (count : ℕ) (events : List Event) (history : Log) : Type 0 where
  pub replays : Replays standard_meanings first history
  pub seated : All (λ entry. entry.seat < count) history.entries
  pub in_turn : (seat : ℕ) → seat < count → events_told (told_to seat history.entries) ≡ items_of_seat count seat events
  pub calls : length history.entries ≡ length events

-- the world after the leading phone calls of a run, in which the board opens
abbrev pub opened_world : Run → World
opened_world run = world_after standard_meanings run.world (leading_calls (events_in run.turns))

-- the events that the seats of a run share
abbrev pub shared_in : Run → List Event
shared_in run = shared_events (events_in run.turns)

-- whether a leading phone call is refused
abbrev pub is_call_refused : Run → Bool
is_call_refused run = list_any is_refused (replies_to standard_meanings run.world (leading_calls (events_in run.turns)))

-- the line that is printed for a settled history
abbrev pub settled_line : ℕ → ℕ → List ℕ
settled_line seats calls = codes "settled " ++ decimal seats ++ codes " seats " ++ decimal calls ++ codes " calls\n"

-- whether a leading phone call or an entry of the history was refused
abbrev pub any_refusal : Run → Log → Bool
any_refusal run history = is_call_refused run || list_any (λ entry. is_refused entry.reply) history.entries

-- a run in threads that succeeded: its history, its status, and its line, which counts the shared events as calls
pub record RanShared (run : Run) (count : ℕ) (old new : Option (List ℕ)) (status : ℕ) (history : Log) : Type 0 where
  pub replay : IsDealt (opened_world run) count (shared_in run) history
  pub told : status ≡ status_by (any_refusal run history)
  pub line : Appends old new (settled_line count (length (shared_in run)))

-- whether settling can have this fault when every seat is handed in: the fault is not a missing seat
abbrev pub misses_no_seat : SettleFault → Bool
misses_no_seat (SeatMissing seat) = false
misses_no_seat (Differs found) = true
misses_no_seat settle_no_memory = true

-- whether a fault comes from settling with every seat, or means that memory ran out
abbrev pub is_settle_fault : PbxFault → Bool
is_settle_fault (Coded (Settle fault) line) = misses_no_seat fault && is_none line
is_settle_fault (Coded (Line kind) line) = false
is_settle_fault (Coded (Name fault) line) = false
is_settle_fault (Coded (Plan kind) line) = false
is_settle_fault (Coded (QueueLine kind) line) = false
is_settle_fault (Coded (Queue kind) line) = false
is_settle_fault (Coded ReadFailed line) = false
is_settle_fault (Coded TooLong line) = false
is_settle_fault (Coded WriteFailed line) = false
is_settle_fault (Coded BadScript line) = false
is_settle_fault (Coded BadBreak line) = false
is_settle_fault NoMemory = true

-- the line with the number of calls was not written: if the write failed a prefix of it was written, else nothing
abbrev pub IsUnwritten : ℕ → ℕ → Option (List ℕ) → Option (List ℕ) → PbxFault → Type 0
IsUnwritten count calls old new (Coded code line) =
    AppendsFront old new (settled_line count calls) × (code ≡ WriteFailed) × (line ≡ None)
IsUnwritten count calls old new NoMemory = Appends old new []

-- why a run in threads fails although its texts have no fault: its seats, all of them handed in, were not settled, or its line was not
-- written, or memory ran out
abbrev pub IsUnshared : Run → ℕ → Option (List ℕ) → Option (List ℕ) → PbxFault → Type 0
IsUnshared run count old new fault =
    (Appends old new [] × (is_settle_fault fault ≡ true)) ⊎ IsUnwritten count (length (shared_in run)) old new fault

-- the output and result of a run in threads with this number of seats, given the run or the fault of its texts
abbrev pub Shares : ℕ → Option (List ℕ) → Option (List ℕ) → Result Run PbxFault → Result (ℕ × Log) PbxFault → Type 0
Shares count old new (Ok run) (Ok ran) = RanShared run count old new ran.0 ran.1
Shares count old new (Ok run) (Err fault) = IsUnshared run count old new fault
Shares count old new (Err fault) (Ok ran) = ⊥
Shares count old new (Err fault) (Err (Coded code line)) = Appends old new [] × (fault ≡ Coded code line)
Shares count old new (Err fault) (Err NoMemory) = Appends old new []
