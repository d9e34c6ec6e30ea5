-- The row of `Dial`.
use Rattle.std.specs.Prelude.{Bool, true, false, List, ℕ, codes}
use Rattle.dp_conf.specs.Levels.{arguments_of}
use Rattle.dp_vars.specs.Stores.{set}
use Rattle.dp_app.specs.Parts.{has_option, is_given, part}
use Rattle.dp_app.specs.Rows.{Outcome, Row}
use Rattle.dp_app.specs.Cells.{CellOf}
use Rattle.dp_app.specs.declared.moves.Move.TheVariants.{Next}
use Rattle.dp_app.specs.declared.phase.Phase.TheVariants.{Dialling}
use Rattle.dp_flow.specs.Jumps.{stays}
use Rattle.dp_flow.specs.Waiting.{park_move}

-- no device is called: the channel's status says so, and the channel goes on
abbrev pub no_device : CellOf → Outcome
no_device cell = record { cell = record cell { store = set cell.store (codes "DIALSTATUS") (codes "CHANUNAVAIL") }; next = Next }

-- the devices are called if there are any, and the channel waits for the result
abbrev pub dial_outcome : Bool → CellOf → Bool → Bool → Outcome
dial_outcome false cell goes_on has_timer = no_device cell
dial_outcome true cell goes_on has_timer = stays cell (park_move (Dialling goes_on has_timer) cell.is_closing)

-- the row, given the parts of the arguments: devices, time, options and URL
abbrev pub dial_by : List (List ℕ) → CellOf → Outcome
dial_by parts cell = dial_outcome (is_given (part 0 parts)) cell (has_option 103 (part 2 parts)) (is_given (part 1 parts))

-- the row of `Dial`
unfoldable pub dial_row : Row
dial_row arguments cell = dial_by (arguments_of arguments) cell
