-- The parts between the known commas of pieces, and the shape of each argument.
use Rattle.std.specs.Prelude.{ℕ, Bool, true, not, ◌&&◌, ◌==◌, List, [], ◌∷◌, map, if◌then◌else◌}
use Rattle.std.specs.List.{onto_first}
use Rattle.dp_conf.specs.Levels.{next_level}
use Rattle.dp_pieces.specs.Bytes.{Bytes}
use Rattle.dp_pieces.specs.Pieces.{AnyOf, Known, OneOf, PieceOf}
use Rattle.dp_pieces.specs.Trimmed.{without_end_blanks}

-- the set has no byte that separates arguments or changes the level; a comma separates them only at level 0
abbrev pub is_clean_set : ℕ → Bytes → Bool
is_clean_set level set = not (set 40) && not (set 41) && not (set 44 && level == 0)

-- no unknown piece contains one of them, starting at a level
abbrev pub are_clean : ℕ → List PieceOf → Bool
are_clean level [] = true
are_clean level (Known byte ∷ pieces) = are_clean (next_level level byte) pieces
are_clean level (OneOf set ∷ pieces) = is_clean_set level set && are_clean level pieces
are_clean level (AnyOf set ∷ pieces) = is_clean_set level set && are_clean level pieces

-- the parts between the known commas of level 0, starting at a level
unfoldable pub split_pieces : ℕ → List PieceOf → List (List PieceOf)
split_pieces level [] = [] ∷ []
split_pieces level (Known byte ∷ pieces) =
    if byte == 44 && level == 0 then [] ∷ split_pieces (next_level level byte) pieces
    else onto_first (Known byte) (split_pieces (next_level level byte) pieces)
split_pieces level (OneOf set ∷ pieces) = onto_first (OneOf set) (split_pieces level pieces)
split_pieces level (AnyOf set ∷ pieces) = onto_first (AnyOf set) (split_pieces level pieces)

-- the shapes of the arguments, if no unknown piece separates them
unfoldable pub shapes_of : List PieceOf → List (List PieceOf)
shapes_of pieces = map without_end_blanks (split_pieces 0 pieces)
