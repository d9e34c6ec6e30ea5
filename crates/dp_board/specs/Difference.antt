-- What a history tells one seat, and where that first differs from a record.
use Rattle.std.specs.Prelude.{◌≡◌, ◌≢◌, ℕ, ◌+◌, ◌==◌, List, [], ◌∷◌, take, slice_get, if◌then◌else◌}
use Rattle.dp_board.specs.Sittings.{call_of}
use Rattle.dp_board.specs.declared.entry.Entry.{Entry}
use Rattle.dp_board.specs.declared.seat_call.SeatCall.{SeatCall}

-- what the entry at a place tells the seat that made the call
abbrev pub told_of : ℕ → Entry → SeatCall
told_of place entry = call_of place entry.event entry.reply

-- what entries tell a seat, if the first of them is at this place
abbrev pub told_from : ℕ → ℕ → List Entry → List SeatCall
told_from seat place [] = []
told_from seat place (entry ∷ entries) =
    if entry.seat == seat then told_of place entry ∷ told_from seat (place + 1) entries else told_from seat (place + 1) entries

-- what a history tells a seat: the seat's own entries, with their places
abbrev pub told_to : ℕ → List Entry → List SeatCall
told_to seat entries = told_from seat 0 entries

-- two lists differ at this index, but not before it
pub record FirstDiffers (left right : List SeatCall) (index : ℕ) : Type 0 where
  pub before : take index left ≡ take index right
  pub there : slice_get left index ≢ slice_get right index
