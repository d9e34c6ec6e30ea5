-- Names that lead a call elsewhere when they are set: the context of transfers, and what runs when a call ends.
use Rattle.std.specs.Prelude.{ℕ, ◌||◌, Bool, List, [], Option, Some, None, codes, if◌then◌else◌}
use Rattle.dp_conf.specs.Words.{same_word}
use Rattle.dp_pieces.specs.Cuts.{cut_known}
use Rattle.dp_pieces.specs.Pieces.{PieceOf}
use Rattle.dp_wide.specs.Settings.{bare_name}
use Rattle.dp_reach.specs.Areas.{Area}
use Rattle.dp_reach.specs.Bounds.{Duties, Duty}
use Rattle.dp_wide_reach.specs.Subroutines.{counted_duties}
use Rattle.dp_wide_duties.specs.Places.{any_in, dialled_bytes}

-- the name of the context of transfers, or of a global that is
abbrev pub names_transfers : List ℕ → Bool
names_transfers name = same_word name (codes "TRANSFER_CONTEXT") || same_word name (codes "GLOBAL(TRANSFER_CONTEXT)")

-- the duties of a name that is set to a value with these pieces
abbrev pub named_owed : Area → List ℕ → List PieceOf → List Duty
named_owed area name value =
    if names_transfers name then any_in dialled_bytes value
    else if same_word name (codes "CHANNEL(hangup_handler_push)") then counted_duties area value else []

-- the duties of `NAME=VALUE`, given the text before the first `=` if it is known
abbrev pub naming_by : Area → Option (List ℕ × List PieceOf) → List Duty
naming_by area None = []
naming_by area (Some cut) = named_owed area (bare_name cut.0) cut.1

-- the duties of `Set`
abbrev pub naming_leads : Duties
naming_leads area pieces = naming_by area (cut_known 61 pieces)
