-- Cells: variables named after a function with its argument, such as `DB(fwd/200)`.
use Rattle.std.specs.Prelude.{ℕ, Bool, ◌||◌, List, codes}
use Rattle.dp_conf.specs.Words.{same_text}
use Rattle.dp_vars.specs.Unknown.{call_text}

-- whether the cells of a function belong to all channels, so that they are globals
abbrev pub is_of_all : List ℕ → Bool
is_of_all function =
    same_text function (codes "DB") || same_text function (codes "DEVICE_STATE") || same_text function (codes "HINT")
    || same_text function (codes "SHARED") || same_text function (codes "ENV")

-- the name of the variable for a cell
abbrev pub cell_name : List ℕ → List ℕ → List ℕ
cell_name function argument = call_text function argument
