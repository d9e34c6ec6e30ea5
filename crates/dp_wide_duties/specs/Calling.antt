-- Where the applications that call devices may lead a call in a real exchange.
use Rattle.std.specs.Prelude.{ℕ, Bool, true, List, [], ◌∷◌, ◌++◌, Option, Some, None, codes, if◌then◌else◌}
use Rattle.dp_conf.specs.Words.{same_word}
use Rattle.dp_pieces.specs.Pieces.{PieceOf, exactly, text_known}
use Rattle.dp_reach.specs.Areas.{Area, area_at}
use Rattle.dp_reach.specs.Bounds.{Duties, Duty, Leads}
use Rattle.dp_wide_duties.specs.Arguments.{argument}
use Rattle.dp_wide_duties.specs.Devices.{devices_owed}
use Rattle.dp_wide_duties.specs.Options.{options_owed, started_owed}
use Rattle.dp_wide_duties.specs.Places.{if_empty}
use Rattle.dp_wide_duties.specs.Transfers.{transfer_owed}

-- the duties of options, which may let a phone transfer the call
abbrev pub transferred_owed : Area → List PieceOf → List Duty
transferred_owed area options = transfer_owed area options ++ options_owed area options

-- the duties of `Dial`: its devices and its options
abbrev pub dial_owed : Area → List PieceOf → List Duty
dial_owed area pieces = devices_owed (argument 0 pieces) ++ transferred_owed area (argument 2 pieces)

-- the duties of `Page`
abbrev pub page_owed : Area → List PieceOf → List Duty
page_owed area pieces = devices_owed (argument 0 pieces) ++ options_owed area (argument 1 pieces)

-- the duties of `Queue`: its options, and the macro and the subroutine that the member runs
abbrev pub queue_owed : Area → List PieceOf → List Duty
queue_owed area pieces = transferred_owed area (argument 1 pieces) ++ started_owed area (argument 6 pieces) (argument 7 pieces)

-- the duties of `AddQueueMember`: the device
abbrev pub member_owed : List PieceOf → List Duty
member_owed pieces = devices_owed (argument 1 pieces)

-- the second argument of `Originate` may be `exten`, given its text if it is known
abbrev pub is_exten : Option (List ℕ) → Bool
is_exten None = true
is_exten (Some kind) = same_word kind (codes "exten")

-- an extension in a context, or `s` if it is empty
abbrev pub exten_in : List PieceOf → List PieceOf → List Duty
exten_in context [] = []
exten_in context (piece ∷ pieces) = Leads (area_at context (piece ∷ pieces)) ∷ []

abbrev pub exten_or_start : List PieceOf → List PieceOf → List Duty
exten_or_start context exten = exten_in context exten ++ if_empty exten (Leads (area_at context (exactly (codes "s"))) ∷ [])

-- the duties of the extension of the third and fourth arguments of `Originate`
abbrev pub second_owed : List PieceOf → List Duty
second_owed pieces = if is_exten (text_known (argument 1 pieces)) then exten_or_start (argument 2 pieces) (argument 3 pieces) else []

-- the duties of `Originate`: its device, and what the other side runs
abbrev pub originate_owed : List PieceOf → List Duty
originate_owed pieces = devices_owed (argument 0 pieces) ++ second_owed pieces

-- the same as rows of a table
abbrev pub dial_leads : Duties
dial_leads area pieces = dial_owed area pieces

abbrev pub page_leads : Duties
page_leads area pieces = page_owed area pieces

abbrev pub queue_leads : Duties
queue_leads area pieces = queue_owed area pieces

abbrev pub member_leads : Duties
member_leads area pieces = member_owed pieces

abbrev pub originate_leads : Duties
originate_leads area pieces = originate_owed pieces
