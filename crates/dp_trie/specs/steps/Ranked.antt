-- The entries of a context in their order while a trie is built.
use Rattle.std.specs.Prelude.{◌≡◌, ℕ, ◌<◌, ◌≤◌, List, length, slice_get, slice_range, Some}
use Rattle.std.specs.List.{AllByRecursion}
use Rattle.std.specs.List.Sorted.{IsStrictlySortedBy}
use Rattle.std.specs.Ordering.{ordering_then, nat_cmp}
use Rattle.std.specs.declared.cmp.Ordering.{Ordering}
use Rattle.dp_pattern.specs.Name.{Meaning, Plain, Pattern}
use Rattle.dp_pattern.specs.Order.{name_cmp}
use Rattle.dp_trie.specs.Known.{Known, known_of}
use Rattle.dp_trie.specs.declared.node.HeldEntry.{HeldEntry}
use Rattle.dp_trie.specs.declared.ranked.Ranked.{Ranked}

-- the data kept of an entry, with its number
abbrev pub known_now : Ranked → Known
known_now ranked = known_of ranked.id ranked.entry.now

-- the data held of an entry, without its name
abbrev pub hold_of : Known → HeldEntry
hold_of known = record { id = known.id; priority = known.priority; label = known.label }

-- the name is a pattern
abbrev pub IsPattern : Meaning → Type 0
IsPattern (Plain text) = ⊥
IsPattern (Pattern classes tail) = Unit {0}

-- the name is plain
abbrev pub IsPlain : Meaning → Type 0
IsPlain (Plain text) = Unit {0}
IsPlain (Pattern classes tail) = ⊥

-- each entry has that name
abbrev pub AreNamed : Meaning → List Known → Type 0
AreNamed name known = AllByRecursion (λ one. one.name ≡ name) known

-- the entries from one place up to another, at least one of them, have the same name
pub record IsGroup (known : List Known) (from until : ℕ) (name : Meaning) : Type 0 where
  pub later : from < until
  pub within : until ≤ length known
  pub same : AreNamed name (slice_range known from until)

-- the order of entries by name, and by priority for the same name
abbrev pub known_cmp : Known → Known → Ordering
known_cmp a b = ordering_then (name_cmp a.name b.name) (nat_cmp a.priority b.priority)

-- each entry is before all greater ones
abbrev pub AreInOrder : List Known → Type 0
AreInOrder known = IsStrictlySortedBy known_cmp known

-- after an entry with a pattern there are only patterns
abbrev pub ArePlainFirst : List Known → Type 0
ArePlainFirst known =
    (i j : ℕ) (a b : Known) → i < j → slice_get known i ≡ Some a → slice_get known j ≡ Some b → IsPattern a.name → IsPattern b.name
