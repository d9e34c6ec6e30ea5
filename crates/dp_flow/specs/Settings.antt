-- The row of `Set`.
use Rattle.std.specs.Prelude.{ℕ, ◌+◌, ◌==◌, List, [], ◌∷◌, Option, Some, None, length, codes, if◌then◌else◌}
use Rattle.std.specs.FinMap.{insert}
use Rattle.std.specs.Option.{option_and_then}
use Rattle.dp_conf.specs.Blanks.{trim}
use Rattle.dp_conf.specs.Cut.{before_last, cut_once}
use Rattle.dp_conf.specs.Words.{same_text}
use Rattle.dp_vars.specs.Stores.{set, set_local}
use Rattle.dp_app.specs.Rows.{Row}
use Rattle.dp_app.specs.Cells.{CellOf}
use Rattle.dp_app.specs.declared.moves.Move.TheVariants.{Next}

-- the text before a `)` that is the last byte
abbrev pub before_end : List ℕ → List ℕ → Option (List ℕ)
before_end after front = if length front + 1 == length after then Some front else None

-- the argument of a function, given the text after its `(`: the `)` has to be the last byte
abbrev pub argument_of : List ℕ → Option (List ℕ)
argument_of after = option_and_then (before_end after) (before_last 41 after)

-- the cell after a function with an argument was set; names of other functions have no effect
abbrev pub with_function : CellOf → List ℕ → List ℕ → List ℕ → CellOf
with_function cell function argument value =
    if same_text function (codes "GLOBAL") then record cell { globals = insert cell.globals argument value }
    else if same_text function (codes "LOCAL") then record cell { store = set_local cell.store argument value }
    else if same_text function (codes "CALLERID") then (if same_text argument (codes "num") then record cell { caller = value } else cell)
    else cell

-- the cell after a function was set, if it has an argument
abbrev pub with_called : CellOf → List ℕ → Option (List ℕ) → List ℕ → CellOf
with_called cell function None value = cell
with_called cell function (Some argument) value = with_function cell function argument value

-- the cell after a variable was set; the empty name has no effect
abbrev pub with_variable : CellOf → List ℕ → List ℕ → CellOf
with_variable cell [] value = cell
with_variable cell (b ∷ bs) value = record cell { store = set cell.store (b ∷ bs) value }

-- the cell after a name was set, given its first `(`, which makes it a function
abbrev pub with_name : CellOf → List ℕ → Option (List ℕ × List ℕ) → List ℕ → CellOf
with_name cell name None value = with_variable cell name value
with_name cell name (Some cut) value = with_called cell cut.0 (argument_of cut.1) value

-- the cell after a name was set
abbrev pub with_value : CellOf → List ℕ → List ℕ → CellOf
with_value cell name value = with_name cell name (cut_once 40 name) value

-- the cell after a setting: the name is before the first `=`, and the value after it; without a `=` nothing changes
abbrev pub with_pair : CellOf → Option (List ℕ × List ℕ) → CellOf
with_pair cell None = cell
with_pair cell (Some cut) = with_value cell (trim cut.0) cut.1

-- the row of `Set`
unfoldable pub set_row : Row
set_row arguments cell = record { cell = with_pair cell (cut_once 61 arguments); next = Next }
