-- Reading a text into pieces: those so far, and the openings in them that wait for their ends.
use Rattle.std.specs.Prelude.{ℕ, ◌+◌, List, [], ◌∷◌, ◌++◌, drop, length, map, take}
use Rattle.dp_conf.specs.declared.groups.GroupKind.{GroupKind}
use Rattle.dp_conf.specs.declared.groups.Mark.{Mark}
use Rattle.dp_conf.specs.declared.groups.Mark.TheVariants.{End, Opening, Byte}
use Rattle.dp_conf.specs.Groups.{opener}
use Rattle.dp_pieces.specs.Pieces.{Known, PieceOf}
use Rattle.dp_pieces.specs.Texts.{GroupMeaning}

-- an opening, with the place of its `$`
pub record OpenOf : Type 0 where
  pub kind : GroupKind
  pub start : ℕ

-- the pieces, and the waiting openings, the innermost first
pub record Read : Type 0 where
  pub pieces : List PieceOf
  pub waiting : List OpenOf

-- the kinds of the waiting openings
abbrev pub kinds_of : List OpenOf → List GroupKind
kinds_of waiting = map (λ w. w.kind) waiting

-- the pieces with those of a group in place of its opening and its body
abbrev pub with_group : GroupMeaning → OpenOf → List PieceOf → List PieceOf
with_group groups w pieces = take w.start pieces ++ groups w.kind (drop (w.start + 2) pieces)

-- after the end of the innermost group
abbrev pub after_group : GroupMeaning → List OpenOf → List PieceOf → Read
after_group groups [] pieces = record { pieces = pieces; waiting = [] }
after_group groups (w ∷ waiting) pieces = record { pieces = with_group groups w pieces; waiting = waiting }

-- after a mark
abbrev pub after : GroupMeaning → Mark → Read → Read
after groups End read = after_group groups read.waiting read.pieces
after groups (Opening kind) read = record {
  pieces = read.pieces ++ Known 36 ∷ Known (opener kind) ∷ [];
  waiting = record { kind = kind; start = length read.pieces } ∷ read.waiting;
}
after groups (Byte byte) read = record read { pieces = read.pieces ++ Known byte ∷ [] }
