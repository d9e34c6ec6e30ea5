-- The steps of the walks over shapes and names. No public clause depends on them.
use Rattle.std.specs.Prelude.{◌≡◌, ℕ, ◌+◌, ◌≤◌, Bool, true, false, List, [], ◌∷◌, length}
use Rattle.std.specs.List.{AllByRecursion}
use Rattle.dp_pattern.specs.Matches.{FitsTail}
use Rattle.dp_pattern.specs.declared.tail.Tail.{Tail}
use Rattle.dp_pieces.specs.Bytes.{Bytes, IsPart, Within, both, none}
use Rattle.dp_pieces.specs.Pieces.{AnyOf, Fits, Known, OneOf, PieceOf, bytes_in}
use Rattle.dp_pieces.specs.declared.shapes.name_place.NamePlace.{NamePlace}
use Rattle.dp_pieces.specs.declared.shapes.name_place.NamePlace.TheVariants.{Byte, Class}

-- the class contains no number above 255
abbrev pub AreBytes : List ℕ → Type 0
AreBytes class = (byte : ℕ) → 256 ≤ byte → bytes_in class byte ≡ false

-- nor does any of these
abbrev pub AreAllBytes : List (List ℕ) → Type 0
AreAllBytes classes = AllByRecursion AreBytes classes

-- the class of a place of a name
abbrev pub class_at : NamePlace → List ℕ
class_at (Byte byte) = byte ∷ []
class_at (Class class) = class.now

-- the piece has any number of bytes of a set, rather than one
abbrev pub is_any : PieceOf → Bool
is_any (Known byte) = false
is_any (OneOf set) = false
is_any (AnyOf set) = true

-- the smallest number of bytes in a text of the pieces
abbrev pub least_of : List PieceOf → ℕ
least_of [] = 0
least_of (Known byte ∷ pieces) = least_of pieces + 1
least_of (OneOf set ∷ pieces) = least_of pieces + 1
least_of (AnyOf set ∷ pieces) = least_of pieces

-- a piece with one byte, met with the class of that byte
abbrev pub IsMet : PieceOf → List ℕ → PieceOf → Type 0
IsMet (Known byte) class met = met ≡ Known byte
IsMet (OneOf set) class met = met ≡ OneOf (both set (bytes_in class))
IsMet (AnyOf set) class met = ⊥

-- one byte of each class in turn, and then what the tail allows
abbrev pub Takes : List (List ℕ) → Tail → List ℕ → Type 0
Takes [] tail digits = FitsTail tail digits
Takes (class ∷ classes) tail [] = ⊥
Takes (class ∷ classes) tail (digit ∷ digits) = (bytes_in class digit ≡ true) × Takes classes tail digits

-- the class contains no byte of the set
abbrev pub Lacks : Bytes → List ℕ → Type 0
Lacks set class = (byte : ℕ) → set byte ≡ true → bytes_in class byte ≡ true → ⊥

-- no text of the pieces is taken this way, nor one of this many bytes of a set, or more
abbrev pub Misses : List PieceOf → List (List ℕ) → Tail → Type 0
Misses pieces classes tail = (digits : List ℕ) → Fits pieces digits → Takes classes tail digits → ⊥

abbrev pub MissesWithin : Bytes → ℕ → List (List ℕ) → Tail → Type 0
MissesWithin set least classes tail =
    (digits : List ℕ) → Within set digits → least ≤ length digits → Takes classes tail digits → ⊥

-- each text of the pieces is taken, and each of this many bytes of a set, or more
abbrev pub AlwaysTakes : List PieceOf → List (List ℕ) → Tail → Type 0
AlwaysTakes pieces classes tail = (digits : List ℕ) → Fits pieces digits → Takes classes tail digits

abbrev pub AlwaysTakesWithin : Bytes → ℕ → List (List ℕ) → Tail → Type 0
AlwaysTakesWithin set least classes tail =
    (digits : List ℕ) → Within set digits → least ≤ length digits → Takes classes tail digits

-- each text of the one shape has the other shape
abbrev pub AlwaysFits : List PieceOf → List PieceOf → Type 0
AlwaysFits pieces other = (text : List ℕ) → Fits pieces text → Fits other text

-- both have the same texts
abbrev pub AreTextsOf : List PieceOf → List PieceOf → Type 0
AreTextsOf pieces other = AlwaysFits pieces other × AlwaysFits other pieces

-- any number of bytes of the empty set
abbrev pub IsNothing : PieceOf → Type 0
IsNothing (Known byte) = ⊥
IsNothing (OneOf set) = ⊥
IsNothing (AnyOf set) = IsPart set none

-- each text of the one piece is one of the other, where both have one byte or both any number
abbrev pub IsWithinPiece : PieceOf → PieceOf → Type 0
IsWithinPiece (Known byte) (Known other) = byte ≡ other
IsWithinPiece (Known byte) (OneOf wide) = wide byte ≡ true
IsWithinPiece (Known byte) (AnyOf wide) = ⊥
IsWithinPiece (OneOf set) (Known other) = ⊥
IsWithinPiece (OneOf set) (OneOf wide) = IsPart set wide
IsWithinPiece (OneOf set) (AnyOf wide) = ⊥
IsWithinPiece (AnyOf set) (Known other) = ⊥
IsWithinPiece (AnyOf set) (OneOf wide) = ⊥
IsWithinPiece (AnyOf set) (AnyOf wide) = IsPart set wide
