-- Seats, and what each of them was told.
use Rattle.std.specs.Prelude.{ℕ, List, [], ◌∷◌, ◌++◌, map}
use Rattle.std.specs.List.Sorted.{IsStrictlyIncreasing}
use Rattle.dp_machine.specs.declared.event.Event.{Event}
use Rattle.dp_machine.specs.declared.reply.Reply.{Reply}
use Rattle.dp_board.specs.declared.seat_call.SeatCall.{SeatCall}

-- what a seat was told about one call: the place of the call's entry, the event and the reply
abbrev pub call_of : ℕ → Event → Reply → SeatCall
call_of place event reply = record { place = place; event = event; reply = reply }

-- a seat: its number, and what it was told, call by call
pub record SeatSitting : Type 0 where
  pub number : ℕ
  pub told : List SeatCall

-- a seat that was told about one more call
abbrev pub with_call : SeatSitting → ℕ → Event → Reply → SeatSitting
with_call seat place event reply = record seat { told = seat.told ++ call_of place event reply ∷ [] }

-- a seat that was told about no call yet
abbrev pub new_sitting : ℕ → SeatSitting
new_sitting number = record { number = number; told = [] }

-- the places of the calls in a record rise: each call occurs once, in its order
abbrev pub PlacesRise : SeatSitting → Type 0
PlacesRise seat = IsStrictlyIncreasing (map (λ call. call.place) seat.told)
