-- The entry and the label that a look-up finds, given the entries of the contexts in file order.
use Rattle.std.specs.Prelude.{ℕ, Bool, false, ◌&&◌, ◌==◌, List, [], ◌∷◌, slice_get, Option, None, Some, is_some}
use Rattle.std.specs.List.{filter, reduce}
use Rattle.std.specs.Option.{option_and_then, option_map, option_map_or, option_or}
use Rattle.std.specs.Ordering.{min_by_ordering}
use Rattle.std.specs.declared.cmp.Ordering.{Ordering}
use Rattle.std.specs.declared.cmp.Ordering.TheVariants.{Equal}
use Rattle.dp_pattern.specs.Dashes.{without_dashes}
use Rattle.dp_pattern.specs.Name.{Meaning}
use Rattle.dp_pattern.specs.Walk.{walk_after, classes_of, tail_of, is_match, goes_on}
use Rattle.dp_plan.specs.Lookup.{entry_at}
use Rattle.dp_plan.specs.Plan.{PlanOf, shares_label}
use Rattle.dp_plan.specs.Ranking.{entry_cmp, ids_of}
use Rattle.dp_plan.specs.declared.entry.Entry.{Entry}
use Rattle.dp_plan.specs.declared.entry.EntryId.{EntryId}

-- whether the text matches the name
abbrev pub matches_name : Meaning → List ℕ → Bool
matches_name name text = is_match (tail_of name) (walk_after (classes_of name) (without_dashes text))

-- whether some ending makes the text match the name, if the name is the meaning of some text and has no tail `!`
abbrev pub goes_on_from : Meaning → List ℕ → Bool
goes_on_from name text = goes_on (tail_of name) (walk_after (classes_of name) (without_dashes text))

-- whether the entry matches the text and has the priority
abbrev pub has_priority : List ℕ → ℕ → Entry → Bool
has_priority text priority entry = matches_name entry.name text && entry.priority == priority

-- whether the entry matches the text and has the label
abbrev pub has_label : List ℕ → List ℕ → Entry → Bool
has_label text label entry = matches_name entry.name text && shares_label entry.label (Some label)

-- whether the entry has priority 1, and its name goes on from the text
abbrev pub begins_later : List ℕ → Entry → Bool
begins_later text entry = goes_on_from entry.name text && entry.priority == 1

-- the entries of the context with a number, in file order; there are none if there is no such context
abbrev pub entries_at : PlanOf → ℕ → List Entry
entries_at plan number = option_map_or (λ context. context.entries) (slice_get plan.contexts number) []

-- whether the entry with these numbers passes the test
abbrev pub passes : PlanOf → (Entry → Bool) → EntryId → Bool
passes plan test id = option_map_or test (entry_at plan id) false

-- the numbers of the entries of a context that pass the test, in file order
abbrev pub passing : PlanOf → (Entry → Bool) → ℕ → List EntryId
passing plan test number = filter (passes plan test) (ids_of number (entries_at plan number))

-- the order of the entries with these numbers; a number without an entry is equal to any
abbrev pub id_cmp : PlanOf → EntryId → EntryId → Ordering
id_cmp plan a b = option_map_or (λ x. option_map_or (entry_cmp x) (entry_at plan b) Equal) (entry_at plan a) Equal

-- the lesser of two, or the first if they are equal
abbrev pub lesser : PlanOf → EntryId → EntryId → EntryId
lesser plan a b = min_by_ordering (id_cmp plan a b) a b

-- the least of these, if there are any
abbrev pub least : PlanOf → List EntryId → Option EntryId
least plan ids = reduce (lesser plan) ids

-- the least entry that passes the test, in the first context of the order that has such an entry
abbrev pub found_by : PlanOf → (Entry → Bool) → List ℕ → Option EntryId
found_by plan test [] = None
found_by plan test (number ∷ order) = option_or (least plan (passing plan test number)) (found_by plan test order)

-- the priority of the entry with these numbers
abbrev pub priority_at : PlanOf → EntryId → Option ℕ
priority_at plan id = option_map (λ entry. entry.priority) (entry_at plan id)

-- the entry that is found for the text at the priority
unfoldable pub found_entry : PlanOf → List ℕ → List ℕ → ℕ → Option EntryId
found_entry plan order text priority = found_by plan (has_priority text priority) order

-- the priority of the entry that is found for the text with the label
unfoldable pub found_label : PlanOf → List ℕ → List ℕ → List ℕ → Option ℕ
found_label plan order text label = option_and_then (priority_at plan) (found_by plan (has_label text label) order)

-- whether some entry of priority 1 has a name that goes on from the text
unfoldable pub goes_on_more : PlanOf → List ℕ → List ℕ → Bool
goes_on_more plan order text = is_some (found_by plan (begins_later text) order)
