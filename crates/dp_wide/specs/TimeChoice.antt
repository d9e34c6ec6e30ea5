-- `GotoIfTime`, which jumps by the clock.
use Rattle.std.specs.Prelude.{ℕ, Bool, false, List, [], ◌∷◌, Option, codes}
use Rattle.std.specs.Option.{option_and_then, option_map_or}
use Rattle.std.specs.Str.{byte}
use Rattle.dp_conf.specs.Cut.{cut_once}
use Rattle.dp_conf.specs.Levels.{arguments_of}
use Rattle.dp_vars.specs.Variables.{Named, value_or_empty}
use Rattle.dp_app.specs.Parts.{part}
use Rattle.dp_app.specs.Rows.{Row}
use Rattle.dp_flow.specs.Conditions.{taken_side}
use Rattle.dp_flow.specs.Jumps.{jump_if, stays}
use Rattle.dp_wide.specs.Times.{lies_in, moment_of}
use Rattle.dp_wide.specs.declared.times.Moment.{Moment}

-- the moment in the global `CLOCK`, if it has one
abbrev pub clock_in : Named → Option Moment
clock_in globals = moment_of (value_or_empty (globals ∷ []) (codes "CLOCK"))

-- whether a moment is in `TIMES,WEEKDAYS,DAYS,MONTHS`, given the parts; a missing part is empty and means all, and a fifth part and later
-- ones have no effect
abbrev pub lies_in_parts : List (List ℕ) → Moment → Bool
lies_in_parts parts moment = lies_in moment (part 0 parts) (part 1 parts) (part 2 parts) (part 3 parts)

-- whether the clock is in these ranges; without a moment it is in none, not even in all
abbrev pub is_time : Option Moment → List ℕ → Bool
is_time clock ranges = option_map_or (lies_in_parts (arguments_of ranges)) clock false

-- the side of `RANGES?SIDE:SIDE` that is taken, if there is one
abbrev pub timed_side : Option Moment → List ℕ → Option (List ℕ)
timed_side clock arguments =
    option_and_then (λ cut. taken_side (is_time clock cut.0) cut.1) (cut_once (byte "?") arguments)

-- the row of `GotoIfTime`
abbrev pub goto_if_time_row : Row
goto_if_time_row arguments cell = stays cell (jump_if (timed_side (clock_in cell.globals) arguments))
