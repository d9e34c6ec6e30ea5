-- The rows of applications that do not change the cell.
use Rattle.dp_app.specs.Rows.{Row}
use Rattle.dp_app.specs.declared.moves.Move.TheVariants.{Next, Hang}
use Rattle.dp_flow.specs.Jumps.{stays}

-- the row of an application that only goes on
abbrev pub next_row : Row
next_row arguments cell = stays cell Next

-- the row of `Hangup`
abbrev pub hangup_row : Row
hangup_row arguments cell = stays cell Hang
