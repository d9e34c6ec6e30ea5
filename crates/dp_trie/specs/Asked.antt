-- The conditions of a look-up on an entry: on its name, given the digits of the text, and on its priority and label.
use Rattle.std.specs.Prelude.{ℕ, Bool, true, false, ◌&&◌, ◌==◌, List, Option, Some, if◌then◌else◌}
use Rattle.std.specs.List.Sorted.{IsStrictlySortedBy}
use Rattle.std.specs.Ordering.{nat_cmp}
use Rattle.dp_pattern.specs.Walk.{Walked, walk_after, classes_of, tail_of, is_match, goes_on}
use Rattle.dp_pattern.specs.declared.tail.Tail.{Tail}
use Rattle.dp_plan.specs.Plan.{shares_label}
use Rattle.dp_trie.specs.Known.{Known}
use Rattle.dp_trie.specs.declared.node.HeldEntry.{HeldEntry}
use Rattle.dp_plan.specs.declared.entry.EntryId.{EntryId}
use Rattle.dp_trie.specs.declared.entry_question.EntryQuestion.{EntryQuestion}
use Rattle.dp_trie.specs.declared.entry_question.EntryQuestion.TheVariants.{Priority, More}

-- a test of a priority and a label
abbrev pub Wanted : Type 0
Wanted = ℕ → Option (List ℕ) → Bool

-- whether the walk is of the wanted kind: its name goes on, or else matches
abbrev pub fits : Bool → Tail → Walked → Bool
fits more tail walk = if more then goes_on tail walk else is_match tail walk

-- whether the entry is wanted, apart from its name
abbrev pub is_wanted : Wanted → Known → Bool
is_wanted wanted known = wanted known.priority known.label

-- whether the entry is one that the question asks for
abbrev pub is_asked : Bool → Wanted → List ℕ → Known → Bool
is_asked more wanted digits known =
    fits more (tail_of known.name) (walk_after (classes_of known.name) digits) && wanted known.priority known.label

-- whether the question is which names go on
abbrev pub is_more : EntryQuestion → Bool
is_more (Priority number) = false
is_more More = true

-- the condition of a question on a priority and a label
abbrev pub wants : EntryQuestion → Wanted
wants (Priority number) priority label = priority == number
wants More priority label = priority == 1

-- whether the data that is held of an entry is wanted
abbrev pub holds : Wanted → HeldEntry → Bool
holds wanted held = wanted held.priority held.label

-- entries of one name are in the order of their priorities
abbrev pub Rise : List HeldEntry → Type 0
Rise held = IsStrictlySortedBy (λ a b. nat_cmp a.priority b.priority) held

-- the condition that an entry has the label
abbrev pub has_label : List ℕ → Wanted
has_label text priority label = shares_label label (Some text)

-- the data that a look-up returns for an entry
abbrev pub hit_held : HeldEntry → EntryId
hit_held held = held.id

abbrev pub hit_of : Known → EntryId
hit_of known = known.id
