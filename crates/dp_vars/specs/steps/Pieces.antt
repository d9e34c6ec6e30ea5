-- Reading a text into its pieces.
use Rattle.std.specs.Prelude.{◌≡◌, ℕ, ◌≤◌, List, [], ◌∷◌, ◌++◌, Option, Some, None, if◌then◌else◌, nat_lt}
use Rattle.dp_conf.specs.GroupsRead.{outer_of}
use Rattle.dp_conf.specs.declared.groups.GroupKind.{GroupKind}
use Rattle.dp_conf.specs.declared.groups.Mark.{Mark}
use Rattle.dp_conf.specs.declared.groups.Mark.TheVariants.{End, Opening, Byte}
use Rattle.dp_vars.specs.Expanding.{WrittenSoFar, after}
use Rattle.dp_vars.specs.Functions.{FunctionTable}
use Rattle.dp_vars.specs.Sights.{Sight}
use Rattle.dp_vars.specs.Spans.{text_at}
use Rattle.dp_vars.specs.Unknown.{unknown_group}
use Rattle.dp_vars.specs.Values.{group_value_with}
use Rattle.dp_vars.specs.Pieces.{blank, past, with_bytes, with_found}
use Rattle.dp_vars.specs.declared.text_piece.TextPiece.{TextPiece}
use Rattle.dp_vars.specs.declared.text_piece.TextPiece.TheVariants.{Run, Name, Call, Other, Part, Known, Empty, Begins, Ends}
use Rattle.dp_vars.specs.declared.span.Span.{Span}

-- the written text with a group of this kind and this body
abbrev pub with_group : FunctionTable → Sight → GroupKind → WrittenSoFar → List ℕ → WrittenSoFar
with_group functions sight kind written body =
    with_found written (group_value_with functions sight kind body) (unknown_group functions sight kind body)

-- the piece is the group of this kind whose body is at this place, whatever is seen
abbrev pub IsGroup : List ℕ → GroupKind → Span → TextPiece → Type 0
IsGroup text kind body piece =
    (functions : FunctionTable) (sight : Sight) (written : WrittenSoFar)
    → past functions sight text written piece ≡ with_group functions sight kind written (text_at text body)

-- a text that is being read into pieces: those so far, the last one first, the kinds of the waiting openings, the
-- innermost first, and the plain bytes after the last piece
pub record ReadSoFar : Type 0 where
  pub pieces : List TextPiece
  pub waiting : List GroupKind
  pub run : Span

-- after pieces, of which the last comes first
abbrev pub past_last : FunctionTable → Sight → List ℕ → List TextPiece → WrittenSoFar
past_last functions sight text [] = blank
past_last functions sight text (piece ∷ pieces) = past functions sight text (past_last functions sight text pieces) piece

-- after all that is read so far
abbrev pub written_in : FunctionTable → Sight → List ℕ → ReadSoFar → WrittenSoFar
written_in functions sight text so_far = with_bytes (past_last functions sight text so_far.pieces) (text_at text so_far.run)

-- the waiting openings after a mark
abbrev pub waiting_after : Mark → List GroupKind → List GroupKind
waiting_after End waiting = outer_of waiting
waiting_after (Opening kind) waiting = kind ∷ waiting
waiting_after (Byte byte) waiting = waiting

-- a mark that is a plain byte comes after these bytes, and ends at this place
abbrev pub StandsAfter : List ℕ → Span → Mark → ℕ → Type 0
StandsAfter text run End place = Unit {0}
StandsAfter text run (Opening kind) place = Unit {0}
StandsAfter text run (Byte byte) place = text_at text (record { from = run.from; to = place }) ≡ text_at text run ++ byte ∷ []

-- the reading continues after a mark that ends at this place, whatever is seen
pub record GoesAfter (text : List ℕ) (mark : Mark) (place : ℕ) (old new : ReadSoFar) : Type 0 where
  pub written : (functions : FunctionTable) (sight : Sight) → written_in functions sight text new ≡ after functions sight mark (written_in functions sight text old)
  pub waiting : new.waiting ≡ waiting_after mark old.waiting
  pub ends : new.run.to ≡ place
  pub begins : new.run.from ≤ place

-- the pieces with plain bytes after them, if there are any
abbrev pub with_run : Span → List TextPiece → List TextPiece
with_run run pieces = if nat_lt run.from run.to then Run run ∷ pieces else pieces

-- the kind of an opening
abbrev pub opening_of : TextPiece → Option GroupKind
opening_of (Begins kind) = Some kind
opening_of (Run span) = None
opening_of (Name name) = None
opening_of (Call function argument) = None
opening_of (Other call) = None
opening_of (Part cut) = None
opening_of (Known value) = None
opening_of Empty = None
opening_of Ends = None

-- the kind of the last piece, if that is an opening
abbrev pub opening_last : List TextPiece → Option GroupKind
opening_last [] = None
opening_last (piece ∷ pieces) = opening_of piece

-- the pieces without the last one
abbrev pub without_last : List TextPiece → List TextPiece
without_last [] = []
without_last (piece ∷ pieces) = pieces
