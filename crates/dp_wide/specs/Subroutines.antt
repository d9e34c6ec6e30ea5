-- The rows of `Gosub` and `GosubIf`, with subroutines that know the number of their arguments.
use Rattle.std.specs.Prelude.{ℕ, ◌-◌, List, [], ◌∷◌, ◌++◌, Option, Some, None, length, take, codes}
use Rattle.std.specs.Fmt.{decimal}
use Rattle.dp_conf.specs.Levels.{arguments_of}
use Rattle.dp_vars.specs.Stores.{with_frame}
use Rattle.dp_vars.specs.declared.local.Local.{Local}
use Rattle.dp_app.specs.Cells.{CellOf}
use Rattle.dp_app.specs.Rows.{Outcome, Row}
use Rattle.dp_app.specs.declared.moves.Move.TheVariants.{Next, Jump, Hang}
use Rattle.dp_app.specs.declared.target.Target.TheVariants.{Existing}
use Rattle.dp_flow.specs.Conditions.{chosen_side}
use Rattle.dp_flow.specs.Jumps.{SubroutineCallOf, argument_locals, place_after, stays, subroutine_call}

-- a local with this name
abbrev pub local : List ℕ → List ℕ → Local
local name value = record { name = name; value = value }

-- the locals of a subroutine: `ARG1`, `ARG2` and so on, and their number `ARGC`
abbrev pub counted_locals : List (List ℕ) → List Local
counted_locals arguments = argument_locals 1 arguments ++ local (codes "ARGC") (decimal (length arguments)) ∷ []

-- the cell with one more frame, which has these locals and returns to the place after this one
abbrev pub with_call : CellOf → List Local → CellOf
with_call cell locals = record cell { store = with_frame cell.store (place_after cell.place) locals }

-- the entry into a subroutine with these locals: it pushes a frame, and sends the channel to the target if an entry is found there
abbrev pub entered_with : CellOf → List Local → List (List ℕ) → Outcome
entered_with cell locals target = record {
  cell = with_call cell locals;
  next = Jump (Existing target);
}

-- the entry into a subroutine, given the parts of its target before the last one
abbrev pub enter_counted : CellOf → List (List ℕ) → Option SubroutineCallOf → Outcome
enter_counted cell front None = stays cell Hang
enter_counted cell front (Some c) = entered_with cell (counted_locals c.arguments) (front ++ c.priority ∷ [])

-- the entry into a subroutine, given the parts of its target
abbrev pub enter_parts : List (List ℕ) → CellOf → Outcome
enter_parts parts cell = enter_counted cell (take (length parts - 1) parts) (subroutine_call parts)

-- the row of `Gosub`
unfoldable pub gosub_row : Row
gosub_row arguments cell = enter_parts (arguments_of arguments) cell

-- the entry into the subroutine of the side that is taken, if there is one
abbrev pub gosub_if : Option (List ℕ) → CellOf → Outcome
gosub_if None cell = stays cell Next
gosub_if (Some side) cell = gosub_row side cell

-- the row of `GosubIf`
unfoldable pub gosub_if_row : Row
gosub_if_row arguments cell = gosub_if (chosen_side arguments) cell
