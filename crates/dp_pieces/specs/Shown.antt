-- Pieces as values of the definition.
use Rattle.std.specs.Prelude.{List, map}
use Rattle.dp_pieces.specs.Pieces as spec
use Rattle.dp_pieces.specs.Sets.{set_by}
use Rattle.dp_pieces.specs.declared.piece.Piece.{Piece}
use Rattle.dp_pieces.specs.declared.piece.Piece.TheVariants.{Known, OneOf, AnyOf}

-- a piece, with its byte or its set
abbrev pub shown_piece : Piece → spec.PieceOf
shown_piece (Known byte) = spec.Known byte
shown_piece (OneOf set) = spec.OneOf (set_by set)
shown_piece (AnyOf set) = spec.AnyOf (set_by set)

-- the same for a list
abbrev pub shown_all : List Piece → List spec.PieceOf
shown_all pieces = map shown_piece pieces
