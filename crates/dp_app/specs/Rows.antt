-- Applications in a table: rows, each of which gives the outcome for some arguments and a cell.
use Rattle.std.specs.Prelude.{ℕ, Bool, List, Option, Some, None, is_some}
use Rattle.dp_vars.specs.Functions.{FunctionTable}
use Rattle.dp_vars.specs.Values.{standard_functions}
use Rattle.dp_app.specs.Cells.{CellOf}
use Rattle.dp_app.specs.declared.moves.Move.{Move}

-- the cell after an application, and where its channel goes
pub record Outcome : Type 0 where
  pub cell : CellOf
  pub next : Move

-- an application: from its expanded arguments and the cell before it to the outcome
abbrev pub Row : Type 0
Row = List ℕ → CellOf → Outcome

-- a table: the row of each of its names
abbrev pub Rows : Type 0
Rows = List ℕ → Option Row

-- the meanings of the names in a dialplan: rows for applications, and values for functions
pub record Meanings : Type 0 where
  pub rows : Rows
  pub functions : FunctionTable

-- the rows of a table, with the functions in its texts
abbrev pub with_functions : Rows → FunctionTable → Meanings
with_functions rows functions = record { rows = rows; functions = functions }

-- the same with the functions of this program
abbrev pub with_standard_functions : Rows → Meanings
with_standard_functions rows = with_functions rows standard_functions

-- a table has a row for the name
abbrev pub has_row : Rows → List ℕ → Bool
has_row rows name = is_some (rows name)

-- the effect of a table on a cell, if it has the name; a name that it lacks changes nothing
abbrev pub after_dispatch : Option Row → List ℕ → CellOf → CellOf × Option Move
after_dispatch None arguments cell = (cell, None)
after_dispatch (Some row) arguments cell = ((row arguments cell).cell, Some (row arguments cell).next)
