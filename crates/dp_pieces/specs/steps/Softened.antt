-- Steps in removing the blanks at the ends of pieces.
use Rattle.std.specs.Prelude.{Bool, false, ◌==◌, List, [], ◌∷◌, Option, None, Some, if◌then◌else◌}
use Rattle.std.specs.Option.{option_map_or}
use Rattle.dp_conf.specs.Blanks.{is_blank}
use Rattle.dp_pieces.specs.Bytes.{Bytes, has_blank}
use Rattle.dp_pieces.specs.Pieces.{AnyOf, Known, OneOf, PieceOf, byte_of}
use Rattle.dp_pieces.specs.Trimmed.{loose_front}

-- a known blank
abbrev pub blank_of : PieceOf → Bool
blank_of piece = option_map_or is_blank (byte_of piece) false

-- without the known blanks at the start
abbrev pub without_blanks : List PieceOf → List PieceOf
without_blanks [] = []
without_blanks (piece ∷ pieces) = if blank_of piece then without_blanks pieces else piece ∷ pieces

-- and without those at the end
abbrev pub before_last_kept : PieceOf → List PieceOf → List PieceOf
before_last_kept piece [] = if blank_of piece then [] else piece ∷ []
before_last_kept piece (next ∷ pieces) = piece ∷ next ∷ pieces

abbrev pub without_last : List PieceOf → List PieceOf
without_last [] = []
without_last (piece ∷ pieces) = before_last_kept piece (without_last pieces)

-- the bytes of a piece that may lose blanks at the start
abbrev pub losing_set : PieceOf → Option Bytes
losing_set (Known byte) = None
losing_set (OneOf set) = if has_blank set then Some set else None
losing_set (AnyOf set) = Some set

-- the start of pieces whose first one is not a known blank
abbrev pub loosened_by : Option Bytes → PieceOf → List PieceOf → List PieceOf
loosened_by None piece pieces = piece ∷ pieces
loosened_by (Some set) piece pieces = loose_front set pieces

abbrev pub start_by : List PieceOf → List PieceOf
start_by [] = []
start_by (piece ∷ pieces) = loosened_by (losing_set piece) piece pieces

-- a piece before others that may lose their blanks: if its byte may be a blank, it may be lost too
abbrev pub soft_piece : PieceOf → PieceOf
soft_piece (Known byte) = if is_blank byte then AnyOf (λ b. b == byte) else Known byte
soft_piece (OneOf set) = if has_blank set then AnyOf set else OneOf set
soft_piece (AnyOf set) = AnyOf set
