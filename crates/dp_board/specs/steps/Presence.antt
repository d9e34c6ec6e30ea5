-- A table with a mark for each number of a board's seats.
use Rattle.std.specs.Prelude.{◌≡◌, ℕ, ◌<◌, ◌||◌, Bool, true, false, List, length, slice_index_or, if◌then◌else◌}
use Rattle.std.specs.List.{sum_by}
use Rattle.dp_board.specs.Settled.{has_seat}
use Rattle.dp_board.specs.Sittings.{SeatSitting}

-- whether the number has its mark
abbrev pub is_marked : List Bool → ℕ → Bool
is_marked present number = slice_index_or present number false

-- how many numbers have no mark
abbrev pub unmarked_in : List Bool → ℕ
unmarked_in present = sum_by (λ mark. if mark then 0 else 1) present

-- the numbers of these seats were marked, and no others
abbrev pub MarksSeats : List Bool → List SeatSitting → List Bool → Type 0
MarksSeats old seats new = (number : ℕ) → number < length old → is_marked new number ≡ (is_marked old number || has_seat seats number)

-- each number has its mark
abbrev pub AllMarked : List Bool → Type 0
AllMarked present = (number : ℕ) → number < length present → is_marked present number ≡ true

-- the least number that has no mark
pub record IsLeastUnmarked (present : List Bool) (number : ℕ) : Type 0 where
  pub within : number < length present
  pub unmarked : is_marked present number ≡ false
  pub least : (lower : ℕ) → lower < number → is_marked present lower ≡ true
