-- Where devices lead a call: `Local/EXTEN@CONTEXT` leads to an extension.
use Rattle.std.specs.Prelude.{ℕ, Bool, true, false, ◌&&◌, ◌||◌, ◌==◌, List, [], ◌∷◌, ◌++◌, Option, Some, None, codes, if◌then◌else◌}
use Rattle.std.specs.Str.{byte}
use Rattle.dp_conf.specs.Words.{same_word}
use Rattle.dp_pieces.specs.Bytes.{Bytes}
use Rattle.dp_pieces.specs.Cuts.{At, CuttingOf, Nowhere, Unsure, cut_pieces}
use Rattle.dp_pieces.specs.Pieces.{AnyOf, Known, OneOf, PieceOf, any_bytes_of, exactly, pieces_set, text_known}
use Rattle.dp_pieces.specs.Trimmed.{without_end_blanks}
use Rattle.dp_reach.specs.Areas.{area_at}
use Rattle.dp_reach.specs.Bounds.{Duty, Leads}
use Rattle.dp_wide_duties.specs.Places.{any_in}

-- any extension with these bytes, in any context with these bytes or in `default`
abbrev pub anywhere : Bytes → List Duty
anywhere set = any_in set (any_bytes_of set) ++ any_in set (exactly (codes "default"))

-- a text with these bytes may be `local`, in any ASCII case
abbrev pub may_be_local : Bytes → Bool
may_be_local set =
    (set (byte "l") || set (byte "L")) && (set (byte "o") || set (byte "O")) && (set (byte "c") || set (byte "C"))
    && (set (byte "a") || set (byte "A"))

-- the duties of a text that may hold a device with these bytes
abbrev pub unsure_owed : Bytes → List Duty
unsure_owed set = if may_be_local set then anywhere set else []

-- the duties of `EXTEN@CONTEXT`, given the cut at the `@`; the context of a text without one is `default`
abbrev pub place_by : List PieceOf → CuttingOf → List Duty
place_by text Nowhere = Leads (area_at (exactly (codes "default")) text) ∷ []
place_by text Unsure = anywhere (pieces_set text)
place_by text (At exten context) = Leads (area_at context exten) ∷ []

-- the duties of `EXTEN@CONTEXT/OPTIONS`, given the cut at the `/`
abbrev pub local_by : List PieceOf → CuttingOf → List Duty
local_by text Nowhere = place_by text (cut_pieces (byte "@") text)
local_by text Unsure = anywhere (pieces_set text)
local_by text (At place options) = place_by place (cut_pieces (byte "@") place)

-- a technology may be `Local`, given its text if it is known, and its bytes
abbrev pub is_local : Option (List ℕ) → Bytes → Bool
is_local None set = may_be_local set
is_local (Some name) set = same_word name (codes "Local")

-- the duties of a device with a technology
abbrev pub technology_owed : List PieceOf → List PieceOf → List Duty
technology_owed technology place =
    if is_local (text_known technology) (pieces_set technology) then local_by place (cut_pieces (byte "/") place) else []

-- the duties of a device `TECHNOLOGY/PLACE`, given the cut at the first `/`
abbrev pub device_by : List PieceOf → CuttingOf → List Duty
device_by device Nowhere = []
device_by device Unsure = unsure_owed (pieces_set device)
device_by device (At technology place) = technology_owed technology place

-- the duties of a device without the blanks at its ends
abbrev pub device_owed : List PieceOf → List Duty
device_owed text = device_by (without_end_blanks text) (cut_pieces (byte "/") (without_end_blanks text))

-- the duties of the first of several devices, given the cut at the first `&`; if it is unsure, of any of them
abbrev pub first_by : List PieceOf → CuttingOf → List Duty
first_by text Nowhere = device_owed text
first_by text Unsure = unsure_owed (pieces_set text)
first_by text (At device rest) = device_owed device

-- the same, if a device begins here
abbrev pub begun_owed : Bool → List PieceOf → List Duty
begun_owed begins text = if begins then first_by text (cut_pieces (byte "&") text) else []

-- a piece separates devices
abbrev pub separates : PieceOf → Bool
separates (Known b) = b == byte "&"
separates (OneOf set) = false
separates (AnyOf set) = false

-- the duties of devices between `&`, given whether one begins here
abbrev pub devices_from : Bool → List PieceOf → List Duty
devices_from begins [] = []
devices_from begins (piece ∷ pieces) = begun_owed begins (piece ∷ pieces) ++ devices_from (separates piece) pieces

abbrev pub devices_owed : List PieceOf → List Duty
devices_owed pieces = devices_from true pieces
