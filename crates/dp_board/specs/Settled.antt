-- What is known once all seats of a board have come together.
use Rattle.std.specs.Prelude.{◌≡◌, ℕ, ◌<◌, ◌==◌, nat_lt, Bool, true, false, List, ◌∷◌, ◌++◌, length, Option, Some, None, All, if◌then◌else◌}
use Rattle.std.specs.List.{list_any, sum_by}
use Rattle.dp_app.specs.Rows.{Meanings}
use Rattle.dp_machine.specs.World.{World}
use Rattle.dp_board.specs.Difference.{told_to, FirstDiffers}
use Rattle.dp_board.specs.Log.{Log, Replays}
use Rattle.dp_board.specs.Sittings.{SeatSitting}
use Rattle.dp_board.specs.declared.difference.Disagree.{Disagree}
use Rattle.dp_board.specs.declared.entry.Entry.{Entry}

-- the number of calls that the seats were told of
abbrev pub calls_of : List SeatSitting → ℕ
calls_of seats = sum_by (λ seat. length seat.told) seats

-- whether a seat with this number is among the seats
abbrev pub has_seat : List SeatSitting → ℕ → Bool
has_seat seats number = list_any (λ seat. seat.number == number) seats

-- every seat of a board with so many seats is among the seats
abbrev pub AllPresent : ℕ → List SeatSitting → Type 0
AllPresent count seats = (number : ℕ) → number < count → has_seat seats number ≡ true

-- the least number of a seat that is not among the seats of a board with so many
pub record IsLeastAbsent (count : ℕ) (seats : List SeatSitting) (number : ℕ) : Type 0 where
  pub within : number < count
  pub absent : has_seat seats number ≡ false
  pub least : (lower : ℕ) → lower < number → has_seat seats lower ≡ true

-- a seat was told its own entries, with their places, and nothing else
abbrev pub Agrees : List Entry → SeatSitting → Type 0
Agrees entries seat = told_to seat.number entries ≡ seat.told

-- of the seats that differ from the entries, one with the least number, and where it first differs
pub record IsLeastDifference (entries : List Entry) (seats : List SeatSitting) (found : Disagree) : Type 0 where
  pub before : List SeatSitting
  pub seat : SeatSitting
  pub after : List SeatSitting
  pub among : seats ≡ before ++ seat ∷ after
  pub number : seat.number ≡ found.seat
  pub differs : FirstDiffers (told_to found.seat entries) seat.told found.index
  pub least : All (λ other. other.number < found.seat → Agrees entries other) seats

-- one history with the calls of all seats: it replays from the first world, all seats of the board are there, and it has as many entries as
-- their records have items
pub record IsWholeHistory (meanings : Meanings) (first : World) (count : ℕ) (seats : List SeatSitting) (history : Log) : Type 0 where
  pub replays : Replays meanings first history
  pub present : AllPresent count seats
  pub calls : length history.entries ≡ calls_of seats
  pub seated : All (λ entry. entry.seat < count) history.entries

-- a settled history: the record of each seat is its entries, with their places
pub record IsSettled (meanings : Meanings) (first : World) (count : ℕ) (seats : List SeatSitting) (history : Log) : Type 0 where
  pub whole : IsWholeHistory meanings first count seats history
  pub records : All (Agrees history.entries) seats

-- the difference with the lesser seat, of two
abbrev pub lesser : Option Disagree → Option Disagree → Option Disagree
lesser None found = found
lesser (Some least) None = Some least
lesser (Some least) (Some found) = if nat_lt found.seat least.seat then Some found else Some least
