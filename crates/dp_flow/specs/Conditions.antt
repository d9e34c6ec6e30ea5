-- Conditions, and choices between two sides.
use Rattle.std.specs.Prelude.{ℕ, Bool, true, false, not, ◌==◌, List, [], ◌∷◌, Option, Some, None, if◌then◌else◌}
use Rattle.std.specs.List.{list_all}
use Rattle.std.specs.Option.{option_and_then}
use Rattle.dp_conf.specs.Blanks.{trim}
use Rattle.dp_conf.specs.Cut.{cut_once}
use Rattle.dp_conf.specs.Levels.{cut_outside}

-- whether a text has only zeros
abbrev pub all_zeros : List ℕ → Bool
all_zeros text = list_all (λ digit. digit == 48) text

-- whether a text is one or more zeros
abbrev pub is_zeros : List ℕ → Bool
is_zeros [] = false
is_zeros (b ∷ bs) = all_zeros (b ∷ bs)

-- the text without a leading minus sign
abbrev pub without_sign : List ℕ → List ℕ
without_sign [] = []
without_sign (b ∷ bs) = if b == 45 then bs else b ∷ bs

-- whether the text is empty, or a whole number that is zero, of any length
abbrev pub is_false : List ℕ → Bool
is_false [] = true
is_false (b ∷ bs) = is_zeros (without_sign (b ∷ bs))

-- whether a condition holds: without blanks at its ends it is not false
unfoldable pub holds : List ℕ → Bool
holds condition = not (is_false (trim condition))

-- a side of a choice; a side of blanks alone counts as absent
abbrev pub present_by : List ℕ → List ℕ → Option (List ℕ)
present_by side [] = None
present_by side (b ∷ bs) = Some side

-- the first or second of two sides, if it is present
abbrev pub side_of : Bool → List ℕ → Option (List ℕ × List ℕ) → Option (List ℕ)
side_of true sides None = Some sides
side_of false sides None = None
side_of true sides (Some cut) = Some cut.0
side_of false sides (Some cut) = Some cut.1

-- the first or second of two sides, which the first `:` outside parentheses separates, if it has more than blanks
abbrev pub taken_side : Bool → List ℕ → Option (List ℕ)
taken_side is_first sides = option_and_then (λ side. present_by side (trim side)) (side_of is_first sides (cut_outside 58 sides))

-- the side that a condition chooses
abbrev pub chosen_by : Option (List ℕ × List ℕ) → Option (List ℕ)
chosen_by None = None
chosen_by (Some cut) = taken_side (holds cut.0) cut.1

-- the side that `CONDITION?SIDE:SIDE` takes: the condition ends at the first `?`, and the first side at the first `:` outside
-- parentheses
unfoldable pub chosen_side : List ℕ → Option (List ℕ)
chosen_side arguments = chosen_by (cut_once 63 arguments)
