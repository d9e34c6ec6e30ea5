-- What is known of an entry, given its application and its arguments as written in the dialplan.
use Rattle.std.specs.Prelude.{◌≡◌, ℕ, List}
use Rattle.dp_pieces.specs.Bytes.{Bytes, Within}
use Rattle.dp_pieces.specs.Names.{IsWithin, Names}
use Rattle.dp_pieces.specs.Pieces.{Fits, PieceOf}
use Rattle.dp_vars.specs.Functions.{FunctionTable}
use Rattle.dp_vars.specs.Sights.{Sight}
use Rattle.dp_vars.specs.Values.{expansion_with}
use Rattle.dp_reach.specs.Areas.{Area}
use Rattle.dp_reach.specs.Bounds.{Duty, Obligations}

-- these are the duties in an area of the application with a name: the arguments fit pieces in any view that agrees with what is known of
-- names, and the duties follow from these
pub record Owes (owing : Obligations) (names : Names) (area : Area) (name arguments : List ℕ) (duties : List Duty) : Type 0 where
  pub pieces : List PieceOf
  pub fits : (sight : Sight) → IsWithin names sight → Fits pieces (expansion_with owing.functions sight arguments)
  pub same : duties ≡ owing.duties name area pieces

-- a text comes to these bytes only, in any view that agrees with what is known of names
abbrev pub ComesTo : FunctionTable → Names → List ℕ → Bytes → Type 0
ComesTo functions names text set = (sight : Sight) → IsWithin names sight → Within set (expansion_with functions sight text)
