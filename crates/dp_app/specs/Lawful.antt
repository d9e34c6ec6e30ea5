-- The laws that the rows of a table keep, so that a machine may trust any table whose rows keep them.
use Rattle.std.specs.Prelude.{◌≡◌, ℕ, ◌<◌, ◌≤◌, true, false, List, [], ◌∷◌, ◌++◌, Some, None, length, map, take}
use Rattle.dp_conf.specs.Words.{same_word}
use Rattle.dp_queue.specs.Agents.{state_at, is_talking}
use Rattle.dp_conf.specs.Changes.{changed_at}
use Rattle.dp_conf.specs.Numbers.{most_priority}
use Rattle.dp_queue.specs.Joining.{waits_in}
use Rattle.dp_queue.specs.Queues.{QueuesOf}
use Rattle.dp_vars.specs.Stores.{StoreOf}
use Rattle.dp_vars.specs.Variables.{Named}
use Rattle.dp_app.specs.Rows.{Row, Rows}
use Rattle.dp_app.specs.Cells.{CellOf}
use Rattle.dp_app.specs.declared.moves.Move.{Move}
use Rattle.dp_app.specs.declared.moves.Move.TheVariants.{Next, Jump, Enter, Park, Hang}
use Rattle.dp_app.specs.declared.phase.Phase.{Phase}
use Rattle.dp_app.specs.declared.phase.Phase.TheVariants.{Ready, Digits, Pause, Queued, Talking, Dialling, Ended}
use Rattle.dp_app.specs.declared.place.Place.{Place}
use Rattle.dp_app.specs.declared.touch.Touch.{Touch}

-- the place to which each frame returns
abbrev pub places_of : StoreOf Place → List Place
places_of store = map (λ frame. frame.back) store.frames

-- the locals of each frame
abbrev pub locals_of : StoreOf Place → List Named
locals_of store = map (λ frame. frame.locals) store.frames

-- with the touch on frames these may be any; without it there are as many, which return to the same places, and their locals change only
-- with the touch on variables. The channel's own variables change only with that touch. Without both touches the names keep their numbers
-- and no name is new
pub record KeepsStore (touch : Touch) (before after : StoreOf Place) : Type 0 where
  pub places : touch.frames ≡ false → places_of after ≡ places_of before
  pub variables : touch.variables ≡ false → after.variables ≡ before.variables
  pub locals : touch.frames ≡ false → touch.variables ≡ false → locals_of after ≡ locals_of before
  pub names : touch.frames ≡ false → touch.variables ≡ false → after.names ≡ before.names

-- the waiting list of each queue
abbrev pub waiting_lists : QueuesOf → List (List ℕ)
waiting_lists q = map (λ queue. queue.waiting) q.queues

-- the queues, the states of agents and the count of finished calls are as before; without the touch on members these are as before too, and
-- so are the known agents, and without the touch on waiting the waiting lists are as before
pub record KeepsQueues (touch : Touch) (before after : QueuesOf) : Type 0 where
  pub names : map (λ queue. queue.name) after.queues ≡ map (λ queue. queue.name) before.queues
  pub settings : map (λ queue. queue.settings) after.queues ≡ map (λ queue. queue.settings) before.queues
  pub finished : after.finished ≡ before.finished
  pub known : take (length before.agents) after.agents ≡ before.agents
  pub states : (number : ℕ) → state_at after.agents number ≡ state_at before.agents number
  pub members : touch.members ≡ false → map (λ queue. queue.members) after.queues ≡ map (λ queue. queue.members) before.queues
  pub lasts : touch.members ≡ false → map (λ queue. queue.last) after.queues ≡ map (λ queue. queue.last) before.queues
  pub agents : touch.members ≡ false → after.agents ≡ before.agents
  pub waiting : touch.waiting ≡ false → waiting_lists after ≡ waiting_lists before

-- the touch law: the channel's number, its place and its closing mark are as before, and so is each part outside the touch
pub record KeepsUntouched (touch : Touch) (before after : CellOf) : Type 0 where
  pub number : after.number ≡ before.number
  pub place : after.place ≡ before.place
  pub closing : after.is_closing ≡ before.is_closing
  pub caller : touch.caller ≡ false → after.caller ≡ before.caller
  pub globals : touch.globals ≡ false → after.globals ≡ before.globals
  pub store : KeepsStore touch before.store after.store
  pub queues : KeepsQueues touch before.queues after.queues

-- a phase in which an application may park a channel, given the number of queues
abbrev pub MayPark : ℕ → Phase → Type 0
MayPark count Ready = ⊥
MayPark count (Digits text is_background) = text ≡ []
MayPark count Pause = Unit {0}
MayPark count (Queued queue goes_on has_timer) = queue < count
MayPark count (Talking queue agent goes_on) = ⊥
MayPark count (Dialling goes_on has_timer) = Unit {0}
MayPark count Ended = ⊥

-- the park law: a move parks a channel only in such a phase
abbrev pub MayGo : ℕ → Move → Type 0
MayGo count Next = Unit {0}
MayGo count (Jump target) = Unit {0}
MayGo count (Enter parts) = Unit {0}
MayGo count (Park phase) = MayPark count phase
MayGo count Hang = Unit {0}

-- the first half of the closing law: the move does not park the channel
abbrev pub ParksNowhere : Move → Type 0
ParksNowhere Next = Unit {0}
ParksNowhere (Jump target) = Unit {0}
ParksNowhere (Enter parts) = Unit {0}
ParksNowhere (Park phase) = ⊥
ParksNowhere Hang = Unit {0}

-- the waiting lists after the channel is parked: it is last in the list of the queue in which it waits
abbrev pub waiting_parked : List (List ℕ) → ℕ → Phase → List (List ℕ)
waiting_parked lists number Ready = lists
waiting_parked lists number (Digits text is_background) = lists
waiting_parked lists number Pause = lists
waiting_parked lists number (Queued queue goes_on has_timer) = changed_at (λ waiting. waiting ++ number ∷ []) queue lists
waiting_parked lists number (Talking queue agent goes_on) = lists
waiting_parked lists number (Dialling goes_on has_timer) = lists
waiting_parked lists number Ended = lists

-- the waiting lists after a move of the channel
abbrev pub waiting_after : List (List ℕ) → ℕ → Move → List (List ℕ)
waiting_after lists number Next = lists
waiting_after lists number (Jump target) = lists
waiting_after lists number (Enter parts) = lists
waiting_after lists number (Park phase) = waiting_parked lists number phase
waiting_after lists number Hang = lists

-- the row would park the channel in this phase if it were not closing
abbrev pub WouldPark : Row → List ℕ → CellOf → Phase → Type 0
WouldPark row arguments cell phase = (row arguments (record cell { is_closing = false })).next ≡ Park phase

-- the laws of a row: the touch law, the park law in two halves, and the closing law: with the closing mark the channel is not parked, and
-- where it would be parked without the mark the call ends, with nothing changed
pub record IsLawfulRow (touch : Touch) (row : Row) : Type 0 where
  pub keeps : (arguments : List ℕ) (cell : CellOf) → KeepsUntouched touch cell (row arguments cell).cell
  pub parks : (arguments : List ℕ) (cell : CellOf) → MayGo (length cell.queues.queues) (row arguments cell).next
  pub waits : (arguments : List ℕ) (cell : CellOf) →
      waiting_lists (row arguments cell).cell.queues ≡ waiting_after (waiting_lists cell.queues) cell.number (row arguments cell).next
  pub closes : (arguments : List ℕ) (cell : CellOf) → cell.is_closing ≡ true → ParksNowhere (row arguments cell).next
  pub hangs : (arguments : List ℕ) (cell : CellOf) (phase : Phase) → cell.is_closing ≡ true
      → WouldPark row arguments cell phase → row arguments cell ≡ record { cell = cell; next = Hang }

-- the laws of a table: those of each of its rows, with the touch of its name
abbrev pub IsLawful : (List ℕ → Touch) → Rows → Type 0
IsLawful touches rows = (name : List ℕ) (row : Row) → rows name ≡ Some row → IsLawfulRow (touches name) row

-- a table does not distinguish ASCII case: for each of its names, every spelling has the same row and the same touch
pub record IsBlind (touches : List ℕ → Touch) (rows : Rows) : Type 0 where
  pub row : (name spelling : List ℕ) → same_word name spelling ≡ true → rows spelling ≡ rows name
  pub touch : (name spelling : List ℕ) → same_word name spelling ≡ true → touches spelling ≡ touches name

-- the channel of a cell may run an application: it is at a priority of an entry, does not wait in a queue and does not talk with an agent
pub record MayRun (cell : CellOf) : Type 0 where
  pub within : cell.place.priority ≤ most_priority
  pub waits_nowhere : waits_in cell.queues.queues cell.number ≡ None
  pub talks_with_nobody : is_talking cell.queues.agents cell.number ≡ false
