-- The rows of applications that wait.
use Rattle.std.specs.Prelude.{Bool, true, false, [], if◌then◌else◌}
use Rattle.dp_app.specs.Rows.{Row}
use Rattle.dp_app.specs.declared.moves.Move.{Move}
use Rattle.dp_app.specs.declared.moves.Move.TheVariants.{Hang, Park}
use Rattle.dp_app.specs.declared.phase.Phase.{Phase}
use Rattle.dp_app.specs.declared.phase.Phase.TheVariants.{Digits, Pause}
use Rattle.dp_flow.specs.Jumps.{stays}

-- the channel waits in a phase; a channel that is closing does not wait, and its call ends
abbrev pub park_move : Phase → Bool → Move
park_move phase is_closing = if is_closing then Hang else Park phase

-- the row of `Wait`: a time-out ends the wait
abbrev pub wait_row : Row
wait_row arguments cell = stays cell (park_move Pause cell.is_closing)

-- the row of `WaitExten`: no digit has come yet
abbrev pub wait_exten_row : Row
wait_exten_row arguments cell = stays cell (park_move (Digits [] false) cell.is_closing)

-- the row of `Background`: no digit has come yet, and after a time-out the channel goes on
abbrev pub background_row : Row
background_row arguments cell = stays cell (park_move (Digits [] true) cell.is_closing)
