-- The pieces of a template, and the text that is written after them.
use Rattle.std.specs.Prelude.{◌≡◌, ℕ, List, [], ◌++◌, drop, fold}
use Rattle.dp_conf.specs.declared.groups.Mark.TheVariants.{End, Opening}
use Rattle.dp_conf.specs.GroupsRead.{reading_of}
use Rattle.dp_vars.specs.Expanding.{WrittenSoFar, after}
use Rattle.dp_vars.specs.Functions.{FunctionTable}
use Rattle.dp_vars.specs.Heads.{head_seen, part_seen, unknown_seen}
use Rattle.dp_vars.specs.Sights.{Sight}
use Rattle.dp_vars.specs.Spans.{text_at}
use Rattle.dp_vars.specs.Unknown.{earlier, unknown_expression, unknown_of}
use Rattle.dp_vars.specs.Values.{expansion_with, value_read}
use Rattle.dp_vars.specs.declared.head.CutPart.{CutPart}
use Rattle.dp_vars.specs.declared.head.Head.{Head}
use Rattle.dp_vars.specs.declared.head.Head.TheVariants as heads
use Rattle.dp_vars.specs.declared.text_piece.KnownExpression.{KnownExpression}
use Rattle.dp_vars.specs.declared.text_piece.TextPiece.{TextPiece}
use Rattle.dp_vars.specs.declared.text_piece.TextPiece.TheVariants.{Run, Name, Call, Other, Part, Known, Empty, Begins, Ends}

-- the written text with more bytes
abbrev pub with_bytes : WrittenSoFar → List ℕ → WrittenSoFar
with_bytes written bytes = record written { bytes = written.bytes ++ bytes }

-- the written text with the value of a group, and with the name, call or expression in it that is not known
abbrev pub with_found : WrittenSoFar → List ℕ → List ℕ → WrittenSoFar
with_found written value unknown =
    record { bytes = written.bytes ++ value; waiting = written.waiting; unknown = earlier written.unknown unknown }

-- the written text with the value of a head
abbrev pub with_head : FunctionTable → Sight → List ℕ → WrittenSoFar → Head → WrittenSoFar
with_head functions sight text written head =
    with_found written (head_seen functions sight text head) (unknown_seen functions sight text head)

-- the written text with a part of the value of a head
abbrev pub with_cut : FunctionTable → Sight → List ℕ → WrittenSoFar → CutPart → WrittenSoFar
with_cut functions sight text written cut =
    with_found written (part_seen text cut (head_seen functions sight text cut.head)) (unknown_seen functions sight text cut.head)

-- the written text with an expression whose value is known
abbrev pub with_expression : FunctionTable → List ℕ → WrittenSoFar → KnownExpression → WrittenSoFar
with_expression functions text written known =
    with_found written (value_read (functions.expression (text_at text known.body)) known.value.items)
    (unknown_expression (functions.expression (text_at text known.body)) (text_at text known.body))

-- after a piece
abbrev pub past : FunctionTable → Sight → List ℕ → WrittenSoFar → TextPiece → WrittenSoFar
past functions sight text written (Run span) = with_bytes written (text_at text span)
past functions sight text written (Name name) = with_head functions sight text written (heads.Name name)
past functions sight text written (Call function argument) = with_head functions sight text written (heads.Call function argument)
past functions sight text written (Other call) = with_head functions sight text written (heads.Other call.value.name call.value.argument)
past functions sight text written (Part cut) = with_cut functions sight text written cut.value
past functions sight text written (Known known) = with_expression functions text written known.value
past functions sight text written Empty = with_head functions sight text written heads.Empty
past functions sight text written (Begins kind) = after functions sight (Opening kind) written
past functions sight text written Ends = after functions sight End written

-- nothing is written
abbrev pub blank : WrittenSoFar
blank = record { bytes = []; waiting = []; unknown = [] }

-- after pieces
abbrev pub past_all : FunctionTable → Sight → List ℕ → List TextPiece → WrittenSoFar
past_all functions sight text pieces = fold (past functions sight text) blank pieces

-- the written text and the plain bytes after a place are the expansion of a text, and what was kept is the first in it that is not known
pub record Come (functions : FunctionTable) (sight : Sight) (text : List ℕ) (written : WrittenSoFar) (tail : ℕ) : Type 0 where
  pub bytes : written.bytes ++ drop tail text ≡ expansion_with functions sight text
  pub unknown : written.unknown ≡ unknown_of functions sight (reading_of text)

-- pieces, and the place after them, from which all bytes are plain
pub record PiecesOf : Type 0 where
  pub pieces : List TextPiece
  pub tail : ℕ

-- after all pieces, and after the plain bytes after them, the expansion of the text is written, and the first name, call or expression in
-- it that is not known was found, whatever is seen and whatever functions there are
abbrev pub AreOf : List ℕ → PiecesOf → Type 0
AreOf text known = (functions : FunctionTable) (sight : Sight) → Come functions sight text (past_all functions sight text known.pieces) known.tail
