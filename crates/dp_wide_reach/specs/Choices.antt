-- The duties of `ExecIf`, which runs the application of one of its sides.
use Rattle.std.specs.Prelude.{ℕ, zero, suc, List, [], ◌∷◌, Option, Some, None}
use Rattle.std.specs.List.{flat_map}
use Rattle.std.specs.Option.{option_map}
use Rattle.dp_conf.specs.Blanks.{trim}
use Rattle.dp_pieces.specs.Cuts.{At, CuttingOf, Nowhere, Unsure, cut_known, cut_last, cut_level, cut_pieces}
use Rattle.dp_pieces.specs.Pieces.{PieceOf, text_known}
use Rattle.dp_pieces.specs.Trimmed.{without_end_blanks}
use Rattle.dp_wide.specs.Choices.{exec_if_title}
use Rattle.dp_reach.specs.Areas.{Area}
use Rattle.dp_reach.specs.Bounds.{Anything, Duties, Duty}
use Rattle.dp_reach.specs.Choices.{sides_by}
use Rattle.dp_reach.specs.Standard.{with_duties}

-- nothing is known of what an application does
abbrev pub anything_owed : Duties
anything_owed area pieces = Anything ∷ []

-- the pieces of the arguments of an application, given the pieces after its `(` and their cut at the last `)`; without one they are all
abbrev pub arguments_by : List PieceOf → CuttingOf → Option (List PieceOf)
arguments_by rest Nowhere = Some rest
arguments_by rest Unsure = None
arguments_by rest (At front after) = Some front

-- the known name of an application and the pieces of its arguments, given the text before its first `(` if it is known; an application
-- without a `(` has no arguments
abbrev pub known_call_by : List PieceOf → Option (List ℕ × List PieceOf) → Option (List ℕ × List PieceOf)
known_call_by side None = option_map (λ name. (name, [])) (text_known side)
known_call_by side (Some cut) = option_map (λ pieces. (trim cut.0, pieces)) (arguments_by cut.1 (cut_last 41 cut.1))

-- the same of a side `NAME` or `NAME(ARGUMENTS)`, without the blanks at its ends
abbrev pub known_call : List PieceOf → Option (List ℕ × List PieceOf)
known_call side = known_call_by side (cut_known 40 side)

-- the duties of the application that a side names; of a side with an unknown name nothing is known
abbrev pub call_duties_by : (List ℕ → Duties) → Area → Option (List ℕ × List PieceOf) → List Duty
call_duties_by duties area None = Anything ∷ []
call_duties_by duties area (Some call) = duties call.0 area call.1

-- the duties of a side without the blanks at its ends; an empty one runs nothing
abbrev pub bare_side_duties : (List ℕ → Duties) → Area → List PieceOf → List Duty
bare_side_duties duties area [] = []
bare_side_duties duties area (piece ∷ pieces) = call_duties_by duties area (known_call (piece ∷ pieces))

abbrev pub side_duties : (List ℕ → Duties) → Area → List PieceOf → List Duty
side_duties duties area side = bare_side_duties duties area (without_end_blanks side)

-- the duties of both sides; if the sides are unknown, nothing is known
abbrev pub choice_duties : (List ℕ → Duties) → Area → Option (List (List PieceOf)) → List Duty
choice_duties duties area None = Anything ∷ []
choice_duties duties area (Some sides) = flat_map (side_duties duties area) sides

-- the duties of the text after the `?`, given the cut of the text before it at its first comma: with one, which makes the old form
-- `CONDITION,NAME,ARGUMENTS`, nothing is known
abbrev pub chosen_duties : (List ℕ → Duties) → Area → List PieceOf → CuttingOf → List Duty
chosen_duties duties area rest Nowhere = choice_duties duties area (sides_by rest (cut_level 58 0 rest))
chosen_duties duties area rest Unsure = Anything ∷ []
chosen_duties duties area rest (At name arguments) = Anything ∷ []

-- the duties given the cut at the first `?`
abbrev pub exec_if_duties_by : (List ℕ → Duties) → Area → CuttingOf → List Duty
exec_if_duties_by duties area Nowhere = Anything ∷ []
exec_if_duties_by duties area Unsure = Anything ∷ []
exec_if_duties_by duties area (At condition rest) = chosen_duties duties area rest (cut_level 44 0 condition)

-- the duties of the row of an `ExecIf` over applications with these duties, when so many may still run inside each other, including this one
abbrev pub exec_if_duties : ℕ → (List ℕ → Duties) → Duties
exec_if_duties zero duties area pieces = []
exec_if_duties (suc more) duties area pieces =
    exec_if_duties_by (with_duties exec_if_title (exec_if_duties more duties) duties) area (cut_pieces 63 pieces)
