-- The duties of applications, given their arguments as written in the dialplan.
use Rattle.std.specs.Prelude.{◌≡◌, ℕ, ◌+◌, List, [], ◌∷◌, ◌++◌, map, Option, Some, None, codes, if◌then◌else◌}
use Rattle.std.specs.Fmt.{decimal}
use Rattle.std.specs.List.{AllByRecursion, flat_map}
use Rattle.dp_vars.specs.Functions.{FunctionTable}
use Rattle.dp_app.specs.Rows.{Row, Rows}
use Rattle.dp_app.specs.Cells.{CellOf}
use Rattle.dp_machine.specs.Events.{is_digit}
use Rattle.dp_pieces.specs.Arguments.{are_clean, shapes_of, split_pieces}
use Rattle.dp_pieces.specs.Bytes.{Bytes, IsPart}
use Rattle.dp_pieces.specs.Cuts.{At, CuttingOf, Nowhere, Unsure, cut_last, cut_pieces}
use Rattle.dp_pieces.specs.Pieces.{Fits, PieceOf, bytes_in, any_bytes_of, pieces_set}
use Rattle.dp_reach.specs.Areas.{Area, Covers, Includes, IsIn, area_at, beside, targets, targets_within}
use Rattle.dp_reach.specs.Choices.{last_part, sides_in}
use Rattle.dp_reach.specs.Holding.{Claim, IsGood, IsInside, LeadsOut}

-- a duty of an application: the reach includes an area; a name, each name, or the caller's number may have these bytes; a digit may lead
-- out of each queue; or nothing is known of what it does, so that no claim can meet it
pub data Duty : Type 0 where
  Leads : Area → Duty
  Holds : List ℕ → Bytes → Duty
  HoldsAll : Bytes → Duty
  Calls : Bytes → Duty
  Waits : Duty
  Anything : Duty

abbrev pub Meets : Claim → Duty → Type 0
Meets claim (Leads area) = Includes claim.plan claim.reach area
Meets claim (Holds name set) = IsPart set (claim.names.bytes name)
Meets claim (HoldsAll set) = (name : List ℕ) → IsPart set (claim.names.bytes name)
Meets claim (Calls set) = IsPart set claim.names.caller
Meets claim Waits = (queue : ℕ) → LeadsOut claim queue
Meets claim Anything = ⊥

abbrev pub MeetsAll : Claim → List Duty → Type 0
MeetsAll claim duties = AllByRecursion (Meets claim) duties

-- the duties, given the area of the channel and the pieces of the arguments
abbrev pub Duties : Type 0
Duties = Area → List PieceOf → List Duty

-- what is known of the entries of a dialplan: the functions in their texts, and the duties of each application
pub record Obligations : Type 0 where
  pub functions : FunctionTable
  pub duties : List ℕ → Duties

-- these functions and duties
abbrev pub obligations : FunctionTable → (List ℕ → Duties) → Obligations
obligations functions duties = record { functions = functions; duties = duties }

-- a row stays inside if its arguments fit the pieces and its duties are met
abbrev pub IsBounded : Duties → Row → Type 0
IsBounded duties row = (claim : Claim) (area : Area) (pieces : List PieceOf) (arguments : List ℕ) (cell : CellOf) → IsGood claim cell → IsIn area cell.place
    → Covers claim.plan claim.reach cell.place → Fits pieces arguments → MeetsAll claim (duties area pieces) → IsInside claim cell.place (row arguments cell)

-- each row of a table stays inside
abbrev pub AreBounded : (List ℕ → Duties) → Rows → Type 0
AreBounded duties rows = (name : List ℕ) (row : Row) → rows name ≡ Some row → IsBounded (duties name) row

-- the duties of a row that jumps to a target
abbrev pub goto_duties : Duties
goto_duties area pieces = map Leads (targets area pieces)

-- the duties of a row that jumps to a side of a choice
abbrev pub sides_duties : Area → Bytes → Option (List (List PieceOf)) → List Duty
sides_duties area set None = map Leads (targets_within area set)
sides_duties area set (Some sides) = map Leads (flat_map (targets area) sides)

abbrev pub goto_if_duties : Duties
goto_if_duties area pieces = sides_duties area (pieces_set pieces) (sides_in pieces)

-- the duties of a subroutine's arguments, from a number on
abbrev pub numbered_duties : ℕ → List (List PieceOf) → List Duty
numbered_duties number [] = []
numbered_duties number (shape ∷ shapes) = Holds (codes "ARG" ++ decimal number) (pieces_set shape) ∷ numbered_duties (number + 1) shapes

-- the duties of the pieces between the parentheses of a subroutine; if they are unknown each name may have the bytes of the text
abbrev pub inside_duties : Bytes → CuttingOf → List Duty
inside_duties set Nowhere = []
inside_duties set Unsure = HoldsAll set ∷ []
inside_duties set (At inside rest) = if are_clean 0 inside then numbered_duties 1 (shapes_of inside) else HoldsAll set ∷ []

abbrev pub call_duties : Bytes → CuttingOf → List Duty
call_duties set Nowhere = []
call_duties set Unsure = HoldsAll set ∷ []
call_duties set (At priority rest) = inside_duties set (cut_last 41 rest)

abbrev pub target_duties : Bytes → List PieceOf → List Duty
target_duties set pieces = if are_clean 0 pieces then call_duties set (cut_pieces 40 (last_part (split_pieces 0 pieces))) else HoldsAll set ∷ []

-- the duties of the row of `Gosub`
abbrev pub subroutine_duties : Area → List PieceOf → List Duty
subroutine_duties area pieces = map Leads (targets area pieces) ++ target_duties (pieces_set pieces) pieces

abbrev pub gosub_duties : Duties
gosub_duties area pieces = subroutine_duties area pieces

-- the targets of the row of `GosubIf`: each side of the choice; if the sides are unknown, any text with these bytes
abbrev pub sides_or : Bytes → Option (List (List PieceOf)) → List (List PieceOf)
sides_or set None = any_bytes_of set ∷ []
sides_or set (Some sides) = sides

abbrev pub gosub_if_duties : Duties
gosub_if_duties area pieces = flat_map (subroutine_duties area) (sides_or (pieces_set pieces) (sides_in pieces))

-- the duties of a row that waits for digits: the digits, and a time-out, lead to extensions of the context
abbrev pub digits_duties : Duties
digits_duties area pieces = Leads (area_at area.context (any_bytes_of is_digit)) ∷ Leads (beside area (codes "t")) ∷ []

-- the duties of a row that leads nowhere and sets nothing: none
abbrev pub nothing_owed : Duties
nothing_owed area pieces = []

-- the duties of a row that sets a name to one of these texts
abbrev pub tells : List ℕ → List (List ℕ) → List Duty
tells name texts = map (λ text. Holds name (bytes_in text)) texts

-- the duties of the rows of `Return`, `Dial` and `Queue`
abbrev pub return_duties : Duties
return_duties area pieces = Holds (codes "GOSUB_RETVAL") (pieces_set pieces) ∷ []

abbrev pub dial_duties : Duties
dial_duties area pieces = tells (codes "DIALSTATUS") (codes "CHANUNAVAIL" ∷ [])

abbrev pub queue_duties : Duties
queue_duties area pieces = Waits ∷ tells (codes "QUEUESTATUS") (codes "UNKNOWN" ∷ codes "JOINEMPTY" ∷ codes "FULL" ∷ [])

-- the duties of the rows on members
abbrev pub add_duties : Duties
add_duties area pieces = tells (codes "AQMSTATUS") (codes "NOSUCHQUEUE" ∷ codes "MEMBERALREADY" ∷ codes "ADDED" ∷ [])

abbrev pub remove_duties : Duties
remove_duties area pieces = tells (codes "RQMSTATUS") (codes "NOSUCHQUEUE" ∷ codes "NOTINQUEUE" ∷ codes "NOTDYNAMIC" ∷ codes "REMOVED" ∷ [])

abbrev pub pause_duties : Duties
pause_duties area pieces = tells (codes "PQMSTATUS") (codes "PAUSED" ∷ codes "NOTFOUND" ∷ [])

abbrev pub unpause_duties : Duties
unpause_duties area pieces = tells (codes "UPQMSTATUS") (codes "UNPAUSED" ∷ codes "NOTFOUND" ∷ [])
