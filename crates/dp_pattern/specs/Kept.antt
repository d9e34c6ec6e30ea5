-- The kept form of a name, and the pieces cut from a text, as values of the definition.
use Rattle.std.specs.Prelude.{ℕ, Bool, false, true, List, length}
use Rattle.std.specs.List.{filter}
use Rattle.dp_pattern.specs.Name.{Meaning, Plain, Pattern, PatternPieceOf, Dash, Wild, Byte, Set, Unclosed}
use Rattle.dp_pattern.specs.declared.name.Kind as kind
use Rattle.dp_pattern.specs.declared.name.Kind.TheVariants as kept
use Rattle.dp_pattern.specs.declared.name.Parts as parts
use Rattle.dp_pattern.specs.declared.name.Parts.TheVariants as shown
use Rattle.dp_pattern.specs.declared.reading.PatternPiece as piece
use Rattle.dp_pattern.specs.declared.reading.PatternPiece.TheVariants as cut

-- the meaning of a kept form
abbrev pub kept_meaning : kind.Kind → Meaning
kept_meaning (kept.Short text) = Plain text.items
kept_meaning (kept.Plain text) = Plain text.items
kept_meaning (kept.Pattern tail classes) = Pattern classes.items tail

-- the meaning of a name's parts
abbrev pub parts_meaning : parts.Parts → Meaning
parts_meaning (shown.Plain text) = Plain text.now
parts_meaning (shown.Pattern classes tail) = Pattern classes.now tail

-- the piece that was cut from a text
abbrev pub cut_piece : piece.PatternPiece → PatternPieceOf
cut_piece cut.Dash = Dash
cut_piece (cut.Wild tail) = Wild tail
cut_piece (cut.Byte b) = Byte b
cut_piece (cut.Set bytes) = Set bytes.now
cut_piece cut.Unclosed = Unclosed

-- whether the piece is a class
abbrev pub is_class : PatternPieceOf → Bool
is_class Dash = false
is_class (Wild tail) = false
is_class (Byte b) = true
is_class (Set bytes) = true
is_class Unclosed = false

-- the number of classes among the pieces
abbrev pub class_count : List PatternPieceOf → ℕ
class_count pieces = length (filter is_class pieces)
