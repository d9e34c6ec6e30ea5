-- Pieces of a text without the blanks at its ends.
use Rattle.std.specs.Prelude.{ℕ, Bool, true, not, ◌&&◌, ◌==◌, List, [], ◌∷◌, if◌then◌else◌}
use Rattle.dp_conf.specs.Blanks.{is_blank}
use Rattle.dp_pieces.specs.Bytes.{Bytes, has_blank}
use Rattle.dp_pieces.specs.Pieces.{AnyOf, Known, OneOf, PieceOf, any_bytes_of, pieces_set}

-- a text of these pieces does not begin with a blank
abbrev pub starts_kept : List PieceOf → Bool
starts_kept [] = true
starts_kept (Known byte ∷ pieces) = not (is_blank byte)
starts_kept (OneOf set ∷ pieces) = not (has_blank set)
starts_kept (AnyOf set ∷ pieces) = not (has_blank set) && starts_kept pieces

-- an unknown piece that may lose blanks; if what comes after may lose some too, everything is one piece
abbrev pub loose_front : Bytes → List PieceOf → List PieceOf
loose_front set pieces = if starts_kept pieces then AnyOf set ∷ pieces else any_bytes_of (pieces_set (AnyOf set ∷ pieces))

-- the pieces without the blanks at the start
abbrev pub trimmed_start : List PieceOf → List PieceOf
trimmed_start [] = []
trimmed_start (Known byte ∷ pieces) = if is_blank byte then trimmed_start pieces else Known byte ∷ pieces
trimmed_start (OneOf set ∷ pieces) = if has_blank set then loose_front set pieces else OneOf set ∷ pieces
trimmed_start (AnyOf set ∷ pieces) = loose_front set pieces

-- a piece that is left out if its byte is a blank and nothing is kept of the pieces after it: one byte of the set, or none
abbrev pub before_kept : Bool → Bytes → PieceOf → List PieceOf → List PieceOf
before_kept may_be_blank set piece pieces = if may_be_blank then AnyOf set ∷ pieces else piece ∷ pieces

-- a known byte before the kept part of the pieces after it
abbrev pub known_before : ℕ → List PieceOf → List PieceOf
known_before byte [] = if is_blank byte then [] else Known byte ∷ []
known_before byte (piece ∷ pieces) = before_kept (is_blank byte) (λ b. b == byte) (Known byte) (piece ∷ pieces)

-- the pieces without the blanks at the end
abbrev pub trimmed_end : List PieceOf → List PieceOf
trimmed_end [] = []
trimmed_end (Known byte ∷ pieces) = known_before byte (trimmed_end pieces)
trimmed_end (OneOf set ∷ pieces) = before_kept (has_blank set) set (OneOf set) (trimmed_end pieces)
trimmed_end (AnyOf set ∷ pieces) = AnyOf set ∷ trimmed_end pieces

-- the pieces without the blanks at both ends
abbrev pub without_end_blanks : List PieceOf → List PieceOf
without_end_blanks pieces = trimmed_end (trimmed_start pieces)
