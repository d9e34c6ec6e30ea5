-- Where a phone may transfer a call.
use Rattle.std.specs.Prelude.{Bool, ◌||◌, List, [], ◌∷◌, if◌then◌else◌}
use Rattle.std.specs.Str.{byte}
use Rattle.dp_pieces.specs.Pieces.{PieceOf, any_bytes_of, pieces_set}
use Rattle.dp_reach.specs.Areas.{Area, area_at}
use Rattle.dp_reach.specs.Bounds.{Duty, Leads}
use Rattle.dp_wide_duties.specs.Places.{dialled_bytes}

-- these options may have `t` or `T`, by which the called phone or the caller's may transfer the call
abbrev pub may_transfer : List PieceOf → Bool
may_transfer options = pieces_set options (byte "t") || pieces_set options (byte "T")

-- the duties of such options: what is dialled into the context of the channel
abbrev pub transfer_owed : Area → List PieceOf → List Duty
transfer_owed area options = if may_transfer options then Leads (area_at area.context (any_bytes_of dialled_bytes)) ∷ [] else []
