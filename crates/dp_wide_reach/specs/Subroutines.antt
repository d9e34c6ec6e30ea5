-- The duties of the applications of the wide table that enter subroutines and macros, and of the jump by the clock.
use Rattle.std.specs.Prelude.{List, [], ◌∷◌, ◌++◌, codes}
use Rattle.std.specs.List.{flat_map}
use Rattle.dp_pieces.specs.Bytes.{digits}
use Rattle.dp_pieces.specs.Cuts.{At, CuttingOf, Nowhere, Unsure, cut_level}
use Rattle.dp_pieces.specs.Pieces.{PieceOf, any_bytes_of, exactly, pieces_set}
use Rattle.dp_pieces.specs.Trimmed.{without_end_blanks}
use Rattle.dp_reach.specs.Areas.{Area, area_at}
use Rattle.dp_reach.specs.Bounds.{Duties, Duty, Holds, HoldsAll, Leads, inside_duties, sides_or, subroutine_duties}
use Rattle.dp_reach.specs.Choices.{sides_in}

-- the number of the arguments
abbrev pub count_duty : Duty
count_duty = Holds (codes "ARGC") digits

-- the duties of a subroutine that knows the number of its arguments
abbrev pub counted_duties : Area → List PieceOf → List Duty
counted_duties area pieces = count_duty ∷ subroutine_duties area pieces

abbrev pub counted_gosub_duties : Duties
counted_gosub_duties area pieces = counted_duties area pieces

abbrev pub counted_gosub_if_duties : Duties
counted_gosub_if_duties area pieces = flat_map (counted_duties area) (sides_or (pieces_set pieces) (sides_in pieces))

-- the start of the macro whose name has these pieces: the extension `s` of its own context
abbrev pub macro_area : List PieceOf → Area
macro_area name = area_at (exactly (codes "macro-") ++ name) (exactly (codes "s"))

-- the duties of the place of the caller, which a macro sees as locals
abbrev pub caller_duties : Area → List Duty
caller_duties area =
    Holds (codes "MACRO_EXTEN") (pieces_set area.exten) ∷ Holds (codes "MACRO_CONTEXT") (pieces_set area.context)
    ∷ Holds (codes "MACRO_PRIORITY") digits ∷ count_duty ∷ []

-- the duties of the name and the arguments of a macro, given the text before and after the comma between them
abbrev pub called_macro_duties : List PieceOf → CuttingOf → List Duty
called_macro_duties pieces Nowhere = Leads (macro_area (without_end_blanks pieces)) ∷ []
called_macro_duties pieces Unsure = Leads (macro_area (any_bytes_of (pieces_set pieces))) ∷ HoldsAll (pieces_set pieces) ∷ []
called_macro_duties pieces (At name rest) = Leads (macro_area (without_end_blanks name)) ∷ inside_duties (pieces_set pieces) (At rest [])

-- the duties of the row of `Macro`
abbrev pub macro_duties : Duties
macro_duties area pieces = caller_duties area ++ called_macro_duties pieces (cut_level 44 0 pieces)
