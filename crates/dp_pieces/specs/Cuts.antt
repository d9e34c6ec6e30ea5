-- Pieces cut once at a byte.
use Rattle.std.specs.Prelude.{ℕ, Bool, ◌&&◌, ◌||◌, ◌==◌, List, [], ◌∷◌, Option, Some, None, if◌then◌else◌}
use Rattle.std.specs.Option.{option_map}
use Rattle.dp_conf.specs.Levels.{next_level}
use Rattle.dp_pieces.specs.Bytes.{Bytes}
use Rattle.dp_pieces.specs.Pieces.{AnyOf, Known, OneOf, PieceOf}

-- pieces cut at a byte: nowhere, between these lists, or unsure because an unknown piece may contain the byte
pub data CuttingOf : Type 0 where
  Nowhere : CuttingOf
  Unsure : CuttingOf
  At : List PieceOf → List PieceOf → CuttingOf

-- one more piece before the cut
abbrev pub with_piece : PieceOf → CuttingOf → CuttingOf
with_piece piece Nowhere = Nowhere
with_piece piece Unsure = Unsure
with_piece piece (At front rest) = At (piece ∷ front) rest

-- the pieces cut at the first such byte
abbrev pub cut_pieces : ℕ → List PieceOf → CuttingOf
cut_pieces mark [] = Nowhere
cut_pieces mark (Known byte ∷ pieces) = if byte == mark then At [] pieces else with_piece (Known byte) (cut_pieces mark pieces)
cut_pieces mark (OneOf set ∷ pieces) = if set mark then Unsure else with_piece (OneOf set) (cut_pieces mark pieces)
cut_pieces mark (AnyOf set ∷ pieces) = if set mark then Unsure else with_piece (AnyOf set) (cut_pieces mark pieces)

-- an unknown piece may contain such a byte of level 0, or change the level
abbrev pub may_cut : ℕ → ℕ → Bytes → Bool
may_cut mark level set = set 40 || set 41 || set mark && level == 0

-- the pieces cut at the first such byte of level 0, starting at a level
abbrev pub cut_level : ℕ → ℕ → List PieceOf → CuttingOf
cut_level mark level [] = Nowhere
cut_level mark level (Known byte ∷ pieces) =
    if byte == mark && level == 0 then At [] pieces else with_piece (Known byte) (cut_level mark (next_level level byte) pieces)
cut_level mark level (OneOf set ∷ pieces) = if may_cut mark level set then Unsure else with_piece (OneOf set) (cut_level mark level pieces)
cut_level mark level (AnyOf set ∷ pieces) = if may_cut mark level set then Unsure else with_piece (AnyOf set) (cut_level mark level pieces)

-- the same at the last such byte: a known byte, and an unknown piece, before the cut of the pieces after it
abbrev pub last_known : ℕ → ℕ → CuttingOf → CuttingOf
last_known mark byte Nowhere = if byte == mark then At [] [] else Nowhere
last_known mark byte Unsure = Unsure
last_known mark byte (At front rest) = At (Known byte ∷ front) rest

abbrev pub last_unknown : ℕ → Bytes → PieceOf → CuttingOf → CuttingOf
last_unknown mark set piece Nowhere = if set mark then Unsure else Nowhere
last_unknown mark set piece Unsure = Unsure
last_unknown mark set piece (At front rest) = At (piece ∷ front) rest

-- the pieces before the last such byte; those after it are left out
abbrev pub cut_last : ℕ → List PieceOf → CuttingOf
cut_last mark [] = Nowhere
cut_last mark (Known byte ∷ pieces) = last_known mark byte (cut_last mark pieces)
cut_last mark (OneOf set ∷ pieces) = last_unknown mark set (OneOf set) (cut_last mark pieces)
cut_last mark (AnyOf set ∷ pieces) = last_unknown mark set (AnyOf set) (cut_last mark pieces)

-- one more known byte before a cut
abbrev pub with_byte : ℕ → Option (List ℕ × List PieceOf) → Option (List ℕ × List PieceOf)
with_byte byte cut = option_map (λ c. (byte ∷ c.0, c.1)) cut

-- a known text before the first such byte, and the pieces after that
abbrev pub cut_known : ℕ → List PieceOf → Option (List ℕ × List PieceOf)
cut_known mark [] = None
cut_known mark (Known byte ∷ pieces) = if byte == mark then Some ([], pieces) else with_byte byte (cut_known mark pieces)
cut_known mark (OneOf set ∷ pieces) = None
cut_known mark (AnyOf set ∷ pieces) = None
