-- Reading the parts of applications' arguments.
use Rattle.std.specs.Prelude.{ℕ, Bool, true, false, List, [], ◌∷◌, is_some, slice_get}
use Rattle.std.specs.Option.{unwrap_or}
use Rattle.dp_conf.specs.Levels.{cut_outside}

-- the part with a number, counted from 0, or the empty text if there are not that many
abbrev pub part : ℕ → List (List ℕ) → List ℕ
part number parts = unwrap_or (slice_get parts number) []

-- the options contain this letter outside parentheses
abbrev pub has_option : ℕ → List ℕ → Bool
has_option option options = is_some (cut_outside option options)

-- a part that is not empty
abbrev pub is_given : List ℕ → Bool
is_given [] = false
is_given (b ∷ bs) = true
