-- The values of `CALLERID(..)`: the number of the caller, the name and the number in one text, or a cell.
use Rattle.std.specs.Prelude.{ℕ, Bool, true, ◌||◌, List, ◌++◌, codes, if◌then◌else◌}
use Rattle.dp_conf.specs.Words.{same_text}
use Rattle.dp_vars.specs.Sights.{Sight}
use Rattle.dp_wide.specs.CellValues.{cell_value, knows_cell}

-- whether an argument asks for the number
abbrev pub asks_number : List ℕ → Bool
asks_number argument = same_text argument (codes "num") || same_text argument (codes "number")

-- whether an argument asks for both the name and the number
abbrev pub asks_all : List ℕ → Bool
asks_all argument = same_text argument (codes "all")

-- the text of a name and a number
abbrev pub caller_text : List ℕ → List ℕ → List ℕ
caller_text name number = codes "\"" ++ name ++ codes "\" <" ++ number ++ codes ">"

-- the name and the number of the caller; the name is a cell
abbrev pub all_value : Sight → List ℕ
all_value sight = caller_text (cell_value sight (codes "CALLERID") (codes "name")) sight.caller

-- whether both are known; the number always is
abbrev pub knows_all : Sight → Bool
knows_all sight = knows_cell sight (codes "CALLERID") (codes "name")

-- the value of `CALLERID` with an argument
abbrev pub caller_value : Sight → List ℕ → List ℕ
caller_value sight argument =
    if asks_number argument then sight.caller
    else (if asks_all argument then all_value sight else cell_value sight (codes "CALLERID") argument)

-- whether the value is known: the number always is, and a text that reads a cell is if the cell is
abbrev pub knows_caller : Sight → List ℕ → Bool
knows_caller sight argument =
    if asks_number argument then true
    else (if asks_all argument then knows_all sight else knows_cell sight (codes "CALLERID") argument)
