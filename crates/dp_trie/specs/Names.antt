-- The plain names of a context.
use Rattle.std.specs.Prelude.{◌≡◌, ℕ, ◌<◌, ◌≤◌, Bool, List, [], ◌∷◌, ◌++◌, map, slice_range, if◌then◌else◌}
use Rattle.std.specs.List.{AllByRecursion}
use Rattle.std.specs.Ordering.{nat_cmp}
use Rattle.std.specs.Cmp.Lexicographic.{slice_cmp}
use Rattle.std.specs.declared.cmp.Ordering.TheVariants.{Less, Equal, Greater}
use Rattle.dp_pattern.specs.Name.{Plain}
use Rattle.dp_trie.specs.Asked.{Rise}
use Rattle.dp_trie.specs.Known.{Known}
use Rattle.dp_trie.specs.Tree.{known_held}
use Rattle.dp_trie.specs.declared.node.HeldEntry.{HeldEntry}
use Rattle.dp_trie.specs.declared.plain.PlainName.{PlainName}
use Rattle.dp_trie.specs.declared.plain.Side.{Side}
use Rattle.dp_trie.specs.declared.plain.Side.TheVariants.{Before, Same, Longer, After}

-- the entries of a plain name
abbrev pub own_plain : List HeldEntry → PlainName → List Known
own_plain held plain = map (known_held (Plain plain.name)) (slice_range held plain.from plain.until)

-- the entries of plain names
abbrev pub known_plain : List HeldEntry → List PlainName → List Known
known_plain held [] = []
known_plain held (plain ∷ names) = own_plain held plain ++ known_plain held names

-- the range of each name lies within so many entries
abbrev pub ArePlainRanges : ℕ → List PlainName → Type 0
ArePlainRanges count names = AllByRecursion (λ plain. (plain.from < plain.until) × (plain.until ≤ count)) names

-- the entries of each name are in the order of their priorities
abbrev pub RiseEach : List HeldEntry → List PlainName → Type 0
RiseEach held names = AllByRecursion (λ plain. Rise (slice_range held plain.from plain.until)) names

-- no name is after a later one
abbrev pub NamesRise : List PlainName → Type 0
NamesRise [] = Unit {0}
NamesRise (plain ∷ names) =
    AllByRecursion (λ later. slice_cmp nat_cmp plain.name later.name ≡ Greater → ⊥) names × NamesRise names

-- on which side of the digits a plain name is, decided by the first byte that differs
abbrev pub side_of : List ℕ → List ℕ → Side
side_of [] [] = Same
side_of [] (d ∷ digits) = Before
side_of (b ∷ name) [] = Longer
side_of (b ∷ name) (d ∷ digits) = elim (nat_cmp b d) [ Less ↦ Before | Equal ↦ side_of name digits | Greater ↦ After ]

-- the sides, numbered in the order of the names
abbrev pub rank : Side → ℕ
rank Before = 0
rank Same = 1
rank Longer = 2
rank After = 3

-- the side of the names that a question asks for: those that go on, or else the one that matches
abbrev pub fitting : Bool → Side
fitting more = if more then Longer else Same

-- the rank of a name
abbrev pub rank_of : List ℕ → PlainName → ℕ
rank_of digits plain = rank (side_of plain.name digits)
