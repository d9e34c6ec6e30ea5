-- How many entries each seat has, and what is at the places in a record.
use Rattle.std.specs.Prelude.{◌≡◌, ℕ, ◌<◌, List, Option, Some, None, length, slice_index}
use Rattle.dp_board.specs.Difference.{told_of, told_to}
use Rattle.dp_board.specs.declared.entry.Entry.{Entry}
use Rattle.dp_board.specs.declared.seat_call.SeatCall.{SeatCall}

-- the number of each seat's entries is at the seat's index
abbrev pub CountsEntries : List Entry → List ℕ → Type 0
CountsEntries entries counts = (seat : ℕ) → seat < length counts → slice_index counts seat ≡ length (told_to seat entries)

-- the entry at the call's place exists and belongs to the seat, and tells the seat this call
abbrev pub IsToldBy : ℕ → SeatCall → Option Entry → Type 0
IsToldBy seat call None = ⊥
IsToldBy seat call (Some entry) = (entry.seat ≡ seat) × (call ≡ told_of call.place entry)
