-- Reading a text as groups and bytes, from the last byte to the first, given the groups that are open at each place.
use Rattle.std.specs.Prelude.{◌≡◌, ℕ, zero, suc, Bool, false, ◌==◌, List, [], ◌∷◌, Option, Some, None, if◌then◌else◌}
use Rattle.dp_conf.specs.declared.groups.GroupKind.{GroupKind}
use Rattle.dp_conf.specs.declared.groups.Mark.{Mark}
use Rattle.dp_conf.specs.declared.groups.Mark.TheVariants.{End, Opening, Byte}
use Rattle.dp_conf.specs.Groups.{Reading, Over, Plain, Group, opener, closer, opening, depth_of}

-- the byte ends the innermost of the open groups, which is listed first
abbrev pub is_end : List GroupKind → ℕ → Bool
is_end [] byte = false
is_end (kind ∷ kinds) byte = byte == closer kind

-- the same, given only the innermost
abbrev pub is_end_of : Option GroupKind → ℕ → Bool
is_end_of None byte = false
is_end_of (Some kind) byte = byte == closer kind

-- the groups around the innermost
abbrev pub outer_of : List GroupKind → List GroupKind
outer_of [] = []
outer_of (kind ∷ kinds) = kinds

-- the mark of a byte that ends no group
abbrev pub mark_of : Option GroupKind → ℕ → Mark
mark_of None byte = Byte byte
mark_of (Some kind) byte = Opening kind

-- the mark at a place, given the open groups and the bytes after it
abbrev pub mark_at : List GroupKind → ℕ → List ℕ → Mark
mark_at kinds byte after = if is_end kinds byte then End else mark_of (opening byte after) byte

-- a text that begins inside groups: the rest of the innermost up to its end, and so on outwards up to a level that does
-- not end in the text
pub data Levels : Type 0 where
  Last : Reading → Levels
  Within : Reading → Levels → Levels

-- a plain byte before it
abbrev pub with_byte : ℕ → Levels → Levels
with_byte byte (Last rest) = Last (Plain byte rest)
with_byte byte (Within rest outer) = Within (Plain byte rest) outer

-- an opening before it: a group if its level ends, else two plain bytes
abbrev pub with_opening : GroupKind → Levels → Levels
with_opening kind (Last rest) = Last (Plain 36 (Plain (opener kind) rest))
with_opening kind (Within inside (Last rest)) = Last (Group kind inside rest)
with_opening kind (Within inside (Within rest outer)) = Within (Group kind inside rest) outer

-- a mark before the levels that are read after it; this many bytes of the mark are still in the text after it
abbrev pub with_mark : Mark → (List GroupKind → ℕ → Levels) → ℕ → List GroupKind → Levels
with_mark End after left kinds = Within Over (after (outer_of kinds) 0)
with_mark (Opening kind) after left kinds = with_opening kind (after (kind ∷ kinds) left)
with_mark (Byte byte) after left kinds = with_byte byte (after kinds 0)

-- the levels of a text inside these groups, after this many bytes that are already read
unfoldable pub levels : List ℕ → List GroupKind → ℕ → Levels
levels [] kinds skipped = Last Over
levels (byte ∷ after) kinds (suc skipped) = levels after kinds skipped
levels (byte ∷ after) kinds zero = with_mark (mark_at kinds byte after) (levels after) 1 kinds

-- the innermost of the open groups
abbrev pub first_of : List GroupKind → Option GroupKind
first_of [] = None
first_of (kind ∷ kinds) = Some kind

-- the text is the mark and the text after it, inside any groups of which this one is the innermost
abbrev pub IsMarked : Option GroupKind → List ℕ → Mark → List ℕ → Type 0
IsMarked innermost text mark after =
    (kinds : List GroupKind) → first_of kinds ≡ innermost → levels text kinds 0 ≡ with_mark mark (levels after) 0 kinds

-- the innermost level
abbrev pub first_level : Levels → Reading
first_level (Last reading) = reading
first_level (Within reading outer) = reading

-- the one reading of a text
unfoldable pub reading_of : List ℕ → Reading
reading_of text = first_level (levels text [] 0)

-- the greatest number of groups inside each other in a text
unfoldable pub nesting_of : List ℕ → ℕ
nesting_of text = depth_of (reading_of text)
