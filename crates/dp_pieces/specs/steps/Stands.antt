-- The relation of pieces to a rule for cutting them, one after another.
use Rattle.std.specs.Prelude.{ℕ, Bool, true, not, ◌&&◌, ◌==◌, List, [], ◌∷◌, if◌then◌else◌}
use Rattle.dp_conf.specs.Levels.{next_level}
use Rattle.dp_pieces.specs.Bytes.{Bytes}
use Rattle.dp_pieces.specs.Cuts.{At, CuttingOf, Nowhere, Unsure, may_cut, with_piece}
use Rattle.dp_pieces.specs.Pieces.{AnyOf, Known, OneOf, PieceOf}
use Rattle.dp_pieces.specs.declared.cuts.Rule.{Rule}
use Rattle.dp_pieces.specs.declared.cuts.Rule.TheVariants.{First, Outside, Comma}
use Rattle.dp_pieces.specs.declared.cuts.Stand.{Stand}
use Rattle.dp_pieces.specs.declared.cuts.Stand.TheVariants.{Here, Maybe, Apart}

-- the relation of a known piece, and of an unknown one
abbrev pub here_if : Bool → Stand
here_if is = if is then Here else Apart

abbrev pub maybe_if : Bool → Stand
maybe_if is = if is then Maybe else Apart

abbrev pub stand_known : Rule → ℕ → ℕ → Stand
stand_known (First mark) level byte = here_if (byte == mark)
stand_known (Outside mark) level byte = here_if (byte == mark && level == 0)
stand_known Comma level byte = here_if (byte == 44 && level == 0)

abbrev pub stand_unknown : Rule → ℕ → Bytes → Stand
stand_unknown (First mark) level set = maybe_if (set mark)
stand_unknown (Outside mark) level set = maybe_if (may_cut mark level set)
stand_unknown Comma level set = Apart

abbrev pub stand_of : Rule → ℕ → PieceOf → Stand
stand_of rule level (Known byte) = stand_known rule level byte
stand_of rule level (OneOf set) = stand_unknown rule level set
stand_of rule level (AnyOf set) = stand_unknown rule level set

-- the level after a piece
abbrev pub level_after : ℕ → PieceOf → ℕ
level_after level (Known byte) = next_level level byte
level_after level (OneOf set) = level
level_after level (AnyOf set) = level

-- an unknown piece separates no arguments and changes no level
abbrev pub is_clean_piece : ℕ → PieceOf → Bool
is_clean_piece level (Known byte) = true
is_clean_piece level (OneOf set) = not (may_cut 44 level set)
is_clean_piece level (AnyOf set) = not (may_cut 44 level set)

-- the cut at the first piece, or in those after it
abbrev pub cut_by : Stand → PieceOf → List PieceOf → CuttingOf → CuttingOf
cut_by Here piece pieces later = At [] pieces
cut_by Maybe piece pieces later = Unsure
cut_by Apart piece pieces later = with_piece piece later

abbrev pub cut_rule : Rule → ℕ → List PieceOf → CuttingOf
cut_rule rule level [] = Nowhere
cut_rule rule level (piece ∷ pieces) = cut_by (stand_of rule level piece) piece pieces (cut_rule rule (level_after level piece) pieces)
