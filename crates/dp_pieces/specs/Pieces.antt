-- Texts with unknown parts, as lists of pieces.
use Rattle.std.specs.Prelude.{◌≡◌, ℕ, zero, suc, true, false, ◌||◌, ◌==◌, List, [], ◌∷◌, ◌++◌, Option, Some, None}
use Rattle.std.specs.List.{list_any}
use Rattle.std.specs.Option.{option_map}
use Rattle.dp_pieces.specs.Bytes.{Bytes, Within}

-- a known byte, one byte of a set, or any number of bytes of a set
pub data PieceOf : Type 0 where
  Known : ℕ → PieceOf
  OneOf : Bytes → PieceOf
  AnyOf : Bytes → PieceOf

-- the byte of a piece, if it is known
abbrev pub byte_of : PieceOf → Option ℕ
byte_of (Known byte) = Some byte
byte_of (OneOf set) = None
byte_of (AnyOf set) = None

-- the text consists of the pieces in order
unfoldable pub Fits : List PieceOf → List ℕ → Type 0
Fits [] text = text ≡ []
Fits (Known byte ∷ pieces) text = (rest : List ℕ) × (text ≡ byte ∷ rest) × Fits pieces rest
Fits (OneOf set ∷ pieces) text = (cut : ℕ × List ℕ) × (text ≡ cut.0 ∷ cut.1) × (set cut.0 ≡ true) × Fits pieces cut.1
Fits (AnyOf set ∷ pieces) text = (cut : List ℕ × List ℕ) × (text ≡ cut.0 ++ cut.1) × Within set cut.0 × Fits pieces cut.1

-- the text of pieces that are all known
abbrev pub text_known : List PieceOf → Option (List ℕ)
text_known [] = Some []
text_known (Known byte ∷ pieces) = option_map (λ bytes. byte ∷ bytes) (text_known pieces)
text_known (OneOf set ∷ pieces) = None
text_known (AnyOf set ∷ pieces) = None

-- the pieces of a known text
abbrev pub exactly : List ℕ → List PieceOf
exactly [] = []
exactly (byte ∷ bytes) = Known byte ∷ exactly bytes

-- the pieces of a text with these bytes
abbrev pub any_bytes_of : Bytes → List PieceOf
any_bytes_of set = AnyOf set ∷ []

-- the bytes of a piece
abbrev pub piece_set : PieceOf → Bytes
piece_set (Known b) byte = byte == b
piece_set (OneOf set) byte = set byte
piece_set (AnyOf set) byte = set byte

-- the bytes of pieces
unfoldable pub pieces_set : List PieceOf → Bytes
pieces_set [] byte = false
pieces_set (piece ∷ pieces) byte = piece_set piece byte || pieces_set pieces byte

-- the bytes of a text
abbrev pub bytes_in : List ℕ → Bytes
bytes_in text byte = list_any (λ b. b == byte) text

-- the pieces without the first bytes: a piece with any number of bytes takes everything after it into one piece
abbrev pub without : ℕ → List PieceOf → List PieceOf
without zero pieces = pieces
without (suc count) [] = []
without (suc count) (Known byte ∷ pieces) = without count pieces
without (suc count) (OneOf set ∷ pieces) = without count pieces
without (suc count) (AnyOf set ∷ pieces) = any_bytes_of (pieces_set (AnyOf set ∷ pieces))

-- the first bytes of the pieces
abbrev pub front : ℕ → List PieceOf → List PieceOf
front zero pieces = []
front (suc count) [] = []
front (suc count) (Known byte ∷ pieces) = Known byte ∷ front count pieces
front (suc count) (OneOf set ∷ pieces) = OneOf set ∷ front count pieces
front (suc count) (AnyOf set ∷ pieces) = any_bytes_of (pieces_set (AnyOf set ∷ pieces))
