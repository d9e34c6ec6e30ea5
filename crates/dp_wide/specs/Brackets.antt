-- Texts whose groups end elsewhere in Asterisk than in this program. Inside `${` Asterisk counts each `{` with its `}`, and inside `$[`
-- each `[` with its `]`, whatever is between them. In this program such a byte ends the innermost group or is plain.
use Rattle.std.specs.Prelude.{ℕ, zero, suc, Bool, false, not, ◌==◌, ◌||◌, List, [], ◌∷◌}
use Rattle.std.specs.List.{list_any}
use Rattle.dp_conf.specs.declared.groups.GroupKind.{GroupKind}
use Rattle.dp_conf.specs.declared.groups.Mark.{Mark}
use Rattle.dp_conf.specs.declared.groups.Mark.TheVariants.{End, Opening, Byte}
use Rattle.dp_conf.specs.Groups.{closer, opener}
use Rattle.dp_conf.specs.GroupsRead.{mark_at, outer_of}

-- whether a byte is one of the two that Asterisk counts inside a group of this kind
abbrev pub counts_in : ℕ → GroupKind → Bool
counts_in byte kind = byte == opener kind || byte == closer kind

-- whether a mark is a plain byte that Asterisk counts inside one of the open groups
abbrev pub is_counted : Mark → List GroupKind → Bool
is_counted End kinds = false
is_counted (Opening kind) kinds = false
is_counted (Byte byte) kinds = list_any (counts_in byte) kinds

-- the open groups after a mark, innermost first
abbrev pub open_after : Mark → List GroupKind → List GroupKind
open_after End kinds = outer_of kinds
open_after (Opening kind) kinds = kind ∷ kinds
open_after (Byte byte) kinds = kinds

-- the number of bytes of a mark after its first
abbrev pub bytes_left : Mark → ℕ
bytes_left End = 0
bytes_left (Opening kind) = 1
bytes_left (Byte byte) = 0

-- whether a mark or a later one is a byte that Asterisk counts
abbrev pub counted_from : Mark → (List GroupKind → ℕ → Bool) → List GroupKind → Bool
counted_from mark after kinds = is_counted mark kinds || after (open_after mark kinds) (bytes_left mark)

-- whether a text that begins inside these groups has such a byte after so many bytes that were already read
unfoldable pub has_counted : List ℕ → List GroupKind → ℕ → Bool
has_counted [] kinds skipped = false
has_counted (byte ∷ after) kinds (suc skipped) = has_counted after kinds skipped
has_counted (byte ∷ after) kinds zero = counted_from (mark_at kinds byte after) (has_counted after) kinds

-- whether a text has no such byte, so that its groups are the same in both
unfoldable pub reads : List ℕ → Bool
reads text = not (has_counted text [] 0)
