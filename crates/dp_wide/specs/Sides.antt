-- The two sides of a choice, and the application that a side names.
use Rattle.std.specs.Prelude.{ℕ, List, [], Option, Some, None, unwrap_or}
use Rattle.std.specs.Option.{option_map_or}
use Rattle.std.specs.Str.{byte}
use Rattle.dp_conf.specs.Blanks.{trim}
use Rattle.dp_conf.specs.Cut.{before_last, cut_once}
use Rattle.dp_flow.specs.Conditions.{chosen_side}

-- the value of `IF`: the trimmed side of `CONDITION?SIDE:SIDE` that is taken; a missing side is empty
abbrev pub if_value : List ℕ → List ℕ
if_value argument = option_map_or trim (chosen_side argument) []

-- the name and arguments of an application, given the first `(` of its text: the arguments after it end at the last `)`, or at the end of
-- the text without one
abbrev pub called_by : List ℕ → Option (List ℕ × List ℕ) → List ℕ × List ℕ
called_by text None = (text, [])
called_by text (Some cut) = (trim cut.0, unwrap_or (before_last (byte ")") cut.1) cut.1)

-- the application that a side names, `NAME` or `NAME(ARGUMENTS)`
abbrev pub called_side : List ℕ → List ℕ × List ℕ
called_side side = called_by (trim side) (cut_once (byte "(") (trim side))
