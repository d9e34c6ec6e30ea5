-- The options of `Dial`, `Queue` and `Page` that run something on a channel: `b`, `B`, `F` and `G` name a place, `U` a subroutine, `M` a macro.
use Rattle.std.specs.Prelude.{Bool, ◌||◌, ◌==◌, false, List, [], ◌∷◌, ◌++◌, codes, if◌then◌else◌}
use Rattle.std.specs.Str.{byte}
use Rattle.dp_pieces.specs.Bytes.{Bytes, either}
use Rattle.dp_pieces.specs.Cuts.{At, CuttingOf, Nowhere, Unsure, cut_level}
use Rattle.dp_pieces.specs.Pieces.{AnyOf, Known, OneOf, PieceOf, any_bytes_of, bytes_in, exactly, piece_set, pieces_set}
use Rattle.dp_pieces.specs.Trimmed.{without_end_blanks}
use Rattle.dp_reach.specs.Areas.{Area, area_at}
use Rattle.dp_reach.specs.Bounds.{Duty, HoldsAll, Leads, inside_duties}
use Rattle.dp_wide_reach.specs.Subroutines.{count_duty, counted_duties, macro_duties}

-- a `^` stands for a comma
abbrev pub comma_set : Bytes → Bytes
comma_set set = if set (byte "^") then either set (bytes_in (codes ",")) else set

abbrev pub comma_piece : PieceOf → PieceOf
comma_piece (Known b) = if b == byte "^" then Known (byte ",") else Known b
comma_piece (OneOf set) = OneOf (comma_set set)
comma_piece (AnyOf set) = AnyOf (comma_set set)

abbrev pub with_commas : List PieceOf → List PieceOf
with_commas [] = []
with_commas (piece ∷ pieces) = comma_piece piece ∷ with_commas pieces

-- the start of a subroutine: the extension `s` of the context with this name
abbrev pub start_area : List PieceOf → Area
start_area name = area_at name (exactly (codes "s"))

-- the duties of `NAME,ARGUMENTS`, given the cut at the first comma
abbrev pub routine_by : List PieceOf → CuttingOf → List Duty
routine_by text Nowhere = Leads (start_area (without_end_blanks text)) ∷ []
routine_by text Unsure = Leads (start_area (any_bytes_of (pieces_set text))) ∷ HoldsAll (pieces_set text) ∷ []
routine_by text (At name rest) = Leads (start_area (without_end_blanks name)) ∷ inside_duties (pieces_set text) (At rest [])

abbrev pub routine_owed : List PieceOf → List Duty
routine_owed text = count_duty ∷ routine_by text (cut_level (byte ",") 0 text)

-- a letter may be one of those that name a place
abbrev pub may_be_place : Bytes → Bool
may_be_place letter = letter (byte "b") || letter (byte "B") || letter (byte "F") || letter (byte "G")

-- the duties of an option with a text, given what its letter may be
abbrev pub place_owed : Area → Bytes → List PieceOf → List Duty
place_owed area letter text = if may_be_place letter then counted_duties area text else []

abbrev pub call_owed : Bytes → List PieceOf → List Duty
call_owed letter text = if letter (byte "U") then routine_owed text else []

abbrev pub macro_owed : Area → Bytes → List PieceOf → List Duty
macro_owed area letter text = if letter (byte "M") then macro_duties area text else []

abbrev pub option_owed : Area → Bytes → List PieceOf → List Duty
option_owed area letter text = place_owed area letter text ++ (call_owed letter text ++ macro_owed area letter text)

-- the text of an option after its `(`, given the cut at its `)`
abbrev pub inside_by : List PieceOf → CuttingOf → List PieceOf
inside_by rest Nowhere = rest
inside_by rest Unsure = any_bytes_of (pieces_set rest)
inside_by rest (At inside after) = inside

abbrev pub option_text : List PieceOf → List PieceOf
option_text rest = with_commas (inside_by rest (cut_level (byte ")") 0 rest))

-- a piece opens the text of an option
abbrev pub opens : PieceOf → Bool
opens (Known b) = b == byte "("
opens (OneOf set) = false
opens (AnyOf set) = false

-- the duties of the option with a letter, given the pieces after the letter
abbrev pub letter_owed : Area → PieceOf → List PieceOf → List Duty
letter_owed area letter [] = []
letter_owed area letter (piece ∷ rest) = if opens piece then option_owed area (piece_set letter) (option_text rest) else []

-- the duties of options; those in the text of another one count too
abbrev pub known_owed : Area → List PieceOf → List Duty
known_owed area [] = []
known_owed area (piece ∷ pieces) = letter_owed area piece pieces ++ known_owed area pieces

-- an unknown piece may open the text of an option
abbrev pub may_open : PieceOf → Bool
may_open (Known b) = false
may_open (OneOf set) = set (byte "(")
may_open (AnyOf set) = set (byte "(")

-- pieces begin with what opens the text of an option
abbrev pub begin_open : List PieceOf → Bool
begin_open [] = false
begin_open (piece ∷ pieces) = opens piece

-- any number of unknown bytes, or none, stand right before the text of an option, so that its letter may be an earlier byte
abbrev pub hides_letter : PieceOf → List PieceOf → Bool
hides_letter (Known b) pieces = false
hides_letter (OneOf set) pieces = false
hides_letter (AnyOf set) pieces = begin_open pieces

-- it is not known where options have texts, or which letters they have
abbrev pub are_unsure : List PieceOf → Bool
are_unsure [] = false
are_unsure (piece ∷ pieces) = may_open piece || (hides_letter piece pieces || are_unsure pieces)

-- the duties of options; if they are not known, any text of their bytes may be the text of one
abbrev pub options_owed : Area → List PieceOf → List Duty
options_owed area options =
    if are_unsure options then option_owed area (pieces_set options) (with_commas (any_bytes_of (pieces_set options))) else known_owed area options

-- the duties of the name of a macro and of a subroutine, each with its arguments; an empty one runs nothing
abbrev pub started_macro : Area → List PieceOf → List Duty
started_macro area [] = []
started_macro area (piece ∷ pieces) = macro_duties area (with_commas (piece ∷ pieces))

abbrev pub started_routine : List PieceOf → List Duty
started_routine [] = []
started_routine (piece ∷ pieces) = routine_owed (with_commas (piece ∷ pieces))

abbrev pub started_owed : Area → List PieceOf → List PieceOf → List Duty
started_owed area macro routine = started_macro area macro ++ started_routine routine
