-- The seats that give the events of a run, and the run before its board opens.
use Rattle.std.specs.Prelude.{◌≡◌, ℕ, ◌<◌, Bool, List, length, take, slice_index_or, Result, Ok, Err}
use Rattle.dp_board.specs.Sittings.{SeatSitting}
use Rattle.dp_machine.specs.World.{World}
use Rattle.dp_machine.specs.declared.event.Event.{Event}
use Rattle.dp_commands.specs.Run.{Run}
use Rattle.dp_commands.specs.Threads.{items_of_seat, events_told, is_call_refused, opened_world, shared_in}
use Rattle.dp_commands.specs.declared.fault.PbxFault.{PbxFault}

-- a seat gave the first of its events, one for each reply that it has
abbrev pub GaveFront : ℕ → List Event → SeatSitting → Type 0
GaveFront count events seat = events_told seat.told ≡ take (length seat.told) (items_of_seat count seat.number events)

-- the seats keep their numbers
abbrev pub KeepNumbers : List SeatSitting → List SeatSitting → Type 0
KeepNumbers old new =
    (place : ℕ) (other : SeatSitting) → place < length old → (slice_index_or new place other).number ≡ (slice_index_or old place other).number

-- the state of a run before its board opens: the world after the leading phone calls, the events after them, and whether a call was refused
abbrev pub begun_of : Result Run PbxFault → Result (World × List Event × Bool) PbxFault
begun_of (Ok run) = Ok (opened_world run, shared_in run, is_call_refused run)
begun_of (Err fault) = Err fault
