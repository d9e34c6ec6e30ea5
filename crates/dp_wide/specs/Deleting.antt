-- The rows of `DBdel` and `DBdeltree`.
use Rattle.std.specs.Prelude.{ℕ, Bool, true, ◌==◌, List, [], ◌∷◌, ◌++◌, Option, Some, None, length, codes, if◌then◌else◌}
use Rattle.std.specs.FinMap.{insert}
use Rattle.std.specs.Str.{byte}
use Rattle.dp_conf.specs.Blanks.{trim}
use Rattle.dp_conf.specs.Cut.{cut_once}
use Rattle.dp_vars.specs.Variables.{Named, without_tree}
use Rattle.dp_app.specs.Rows.{Row}
use Rattle.dp_app.specs.declared.moves.Move.TheVariants.{Next}
use Rattle.dp_app.specs.declared.touch.Touch.{Touch}
use Rattle.dp_flow.specs.Touches.{nothing}
use Rattle.dp_wide.specs.CellValues.{assumed_name, deleted_name}
use Rattle.dp_wide.specs.Cells.{cell_name}

-- the touch of the globals
abbrev pub the_globals : Touch
the_globals = record nothing { globals = true }

-- the globals after the cell of a key was emptied, so that it is known
abbrev pub with_empty_key : Named → List ℕ → Named
with_empty_key globals key = insert globals (cell_name (codes "DB") key) []

-- the row of `DBdel`
abbrev pub delete_row : Row
delete_row arguments cell = record { cell = record cell { globals = with_empty_key cell.globals (trim arguments) }; next = Next }

-- the first bytes of the names of all cells of the database
abbrev pub database_front : List ℕ
database_front = codes "DB("

-- the first bytes of the names of the cells below a key
abbrev pub front_below : List ℕ → List ℕ
front_below key = database_front ++ (key ++ codes "/")

-- the globals after a key was deleted with all keys below it
abbrev pub without_key : Named → List ℕ → Named
without_key globals key = without_tree (cell_name (codes "DB") key) (front_below key) (insert globals (deleted_name key) (codes "1"))

-- the globals after all keys were deleted
abbrev pub without_keys : Named → Named
without_keys globals = without_tree database_front database_front (insert globals (assumed_name (codes "DB")) (codes "1"))

-- whether an argument `FAMILY[/KEYTREE]` names all keys: its family is empty
abbrev pub names_all : List ℕ → Bool
names_all [] = true
names_all (b ∷ bs) = b == byte "/"

-- the key that an argument names, given its first `/`: a `/` with no key tree after it is left out
abbrev pub tree_by : List ℕ → Option (List ℕ × List ℕ) → List ℕ
tree_by argument None = argument
tree_by argument (Some cut) = if length cut.1 == 0 then cut.0 else argument

-- the key that an argument names
abbrev pub tree_of : List ℕ → List ℕ
tree_of argument = tree_by argument (cut_once (byte "/") argument)

-- the name of the global that says that the keys which an argument names were deleted
abbrev pub deleted_mark : List ℕ → List ℕ
deleted_mark argument = if names_all argument then assumed_name (codes "DB") else deleted_name (tree_of argument)

-- the globals after the keys that an argument names were deleted
abbrev pub without_named : Named → List ℕ → Named
without_named globals argument = if names_all argument then without_keys globals else without_key globals (tree_of argument)

-- the row of `DBdeltree`
abbrev pub delete_tree_row : Row
delete_tree_row arguments cell = record { cell = record cell { globals = without_named cell.globals (trim arguments) }; next = Next }
