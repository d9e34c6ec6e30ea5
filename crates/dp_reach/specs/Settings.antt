-- The duties of `Set`. Functions other than `GLOBAL`, `LOCAL` and `CALLERID` set nothing, so this holds for a table whose row of `Set` says
-- so, and for no wider one.
use Rattle.std.specs.Prelude.{ℕ, List, [], ◌∷◌, Option, Some, None, codes, if◌then◌else◌}
use Rattle.dp_conf.specs.Blanks.{trim, trim_start}
use Rattle.dp_conf.specs.Cut.{cut_once}
use Rattle.dp_conf.specs.Words.{same_text}
use Rattle.dp_flow.specs.Settings.{argument_of}
use Rattle.dp_pieces.specs.Bytes.{Bytes}
use Rattle.dp_pieces.specs.Cuts.{cut_known}
use Rattle.dp_pieces.specs.Pieces.{PieceOf, pieces_set}
use Rattle.dp_reach.specs.Bounds.{Calls, Duties, Duty, Holds, HoldsAll}

-- the duties if a function of an argument is set to a value with these bytes
abbrev pub function_duties : List ℕ → List ℕ → Bytes → List Duty
function_duties function argument set =
    if same_text function (codes "GLOBAL") then Holds argument set ∷ []
    else if same_text function (codes "LOCAL") then Holds argument set ∷ []
    else if same_text function (codes "CALLERID") then (if same_text argument (codes "num") then Calls set ∷ [] else [])
    else []

abbrev pub called_duties : List ℕ → Option (List ℕ) → Bytes → List Duty
called_duties function None set = []
called_duties function (Some argument) set = function_duties function argument set

-- the duties if the name is known: it may have the bytes of the value
abbrev pub name_duties : List ℕ → Option (List ℕ × List ℕ) → Bytes → List Duty
name_duties name None set = Holds name set ∷ []
name_duties name (Some cut) set = called_duties cut.0 (argument_of cut.1) set

-- the duties if only the function's name is known, but not its argument
abbrev pub any_argument_duties : List ℕ → Bytes → List Duty
any_argument_duties function set =
    if same_text function (codes "GLOBAL") then HoldsAll set ∷ []
    else if same_text function (codes "LOCAL") then HoldsAll set ∷ []
    else if same_text function (codes "CALLERID") then Calls set ∷ []
    else []

-- the duties if no name is known: each name may have the bytes of the text
abbrev pub unknown_duties : Bytes → Option (List ℕ × List PieceOf) → List Duty
unknown_duties set None = HoldsAll set ∷ Calls set ∷ []
unknown_duties set (Some cut) = any_argument_duties (trim_start cut.0) set

-- the duties of `NAME=VALUE`, given the text before the first `=` if it is known
abbrev pub pair_duties : List PieceOf → Option (List ℕ × List PieceOf) → List Duty
pair_duties pieces None = unknown_duties (pieces_set pieces) (cut_known 40 pieces)
pair_duties pieces (Some cut) = name_duties (trim cut.0) (cut_once 40 (trim cut.0)) (pieces_set cut.1)

abbrev pub set_duties : Duties
set_duties area pieces = pair_duties pieces (cut_known 61 pieces)
