-- What is known of an extension that matches the name of an entry: its shape met with the name.
use Rattle.std.specs.Prelude.{ℕ, List, [], ◌∷◌, if◌then◌else◌}
use Rattle.dp_pattern.specs.Name.{Meaning, Plain, Pattern}
use Rattle.dp_pattern.specs.declared.tail.Tail.{Tail}
use Rattle.dp_pattern.specs.declared.tail.Tail.TheVariants.{End, Dot, Bang}
use Rattle.dp_pieces.specs.Bytes.{both}
use Rattle.dp_pieces.specs.Pieces.{AnyOf, Known, OneOf, PieceOf, bytes_in, exactly, any_bytes_of, pieces_set}

-- what may come after the classes: nothing, or what the pieces say
abbrev pub met_tail : List PieceOf → Tail → List PieceOf
met_tail pieces End = []
met_tail pieces Dot = pieces
met_tail pieces Bang = pieces

-- each piece met with the class of its byte; from a piece with any number of bytes on, each byte belongs to the class and to what may come
-- after
abbrev pub met_classes : List PieceOf → List (List ℕ) → Tail → List PieceOf
met_classes pieces [] tail = met_tail pieces tail
met_classes [] (class ∷ classes) tail = []
met_classes (Known byte ∷ pieces) (class ∷ classes) tail = Known byte ∷ met_classes pieces classes tail
met_classes (OneOf set ∷ pieces) (class ∷ classes) tail = OneOf (both set (bytes_in class)) ∷ met_classes pieces classes tail
met_classes (AnyOf set ∷ pieces) (class ∷ classes) tail =
    OneOf (both (pieces_set (AnyOf set ∷ pieces)) (bytes_in class)) ∷ met_classes (any_bytes_of (pieces_set (AnyOf set ∷ pieces))) classes tail

-- a name without classes is matched only by itself
abbrev pub after_meeting : List PieceOf → Meaning → List PieceOf
after_meeting pieces (Plain plain) = exactly plain
after_meeting pieces (Pattern classes tail) = met_classes pieces classes tail

-- what is known of an extension that matches the name: dashes are ignored in a match, so a shape that may contain them is unchanged
abbrev pub after_match : List PieceOf → Meaning → List PieceOf
after_match pieces name = if pieces_set pieces 45 then pieces else after_meeting pieces name
