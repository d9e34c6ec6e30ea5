-- A step of the code: the contexts from which each entry is hidden, recorded for one context after another. The result is `hidden_from` of
-- Hidden.
use Rattle.std.specs.Prelude.{◌≡◌, ℕ, Bool, ◌&&◌, ◌||◌, ◌==◌, List, [], ◌∷◌, ◌++◌, length, map, replicate, slice_get, nat_eq, Option, Some, if◌then◌else◌}
use Rattle.std.specs.Cmp.Lexicographic.{pointwise}
use Rattle.std.specs.List.{filter, list_any, range_with_len}
use Rattle.std.specs.Option.{option_and_then, option_map}
use Rattle.dp_pattern.specs.Spelling.{spelling}
use Rattle.dp_lookup.specs.FoundEntry.{entries_at, passes}
use Rattle.dp_plan.specs.Contexts.{PlanContext}
use Rattle.dp_plan.specs.Lookup.{entry_at}
use Rattle.dp_plan.specs.Plan.{PlanOf}
use Rattle.dp_plan.specs.declared.entry.Entry.{Entry}
use Rattle.dp_plan.specs.declared.entry.EntryId.{EntryId}
use Rattle.dp_audit.specs.Candidates.{same_id}
use Rattle.dp_audit.specs.Hidden.{hidden_from, is_hidden, some_shares}
use Rattle.dp_audit.specs.declared.entry_place.EntryPlace.{EntryPlace}

-- ---- places

-- the place of an entry
abbrev pub place_of : Entry → EntryPlace
place_of entry = record { name = spelling entry.name; priority = entry.priority }

abbrev pub same_place : EntryPlace → EntryPlace → Bool
same_place a b = pointwise nat_eq a.name b.name && a.priority == b.priority

-- whether the entry has the place
abbrev pub is_at : EntryPlace → Entry → Bool
is_at place entry = same_place place (place_of entry)

-- whether an entry of the contexts has the place
abbrev pub some_at : PlanOf → List ℕ → EntryPlace → Bool
some_at plan contexts place = list_any (λ number. list_any (is_at place) (entries_at plan number)) contexts

-- a place is among the new ones if it is among the old ones or passes the test
abbrev pub Adds : (EntryPlace → Bool) → List EntryPlace → List EntryPlace → Type 0
Adds test old new = (place : EntryPlace) → list_any (same_place place) new ≡ (list_any (same_place place) old || test place)

-- ---- notes

-- for each entry of each context, the numbers of contexts
abbrev pub Notes : Type 0
Notes = List (List (List ℕ))

-- the list with one more number
abbrev pub with_number : ℕ → List ℕ → List ℕ
with_number number numbers = numbers ++ number ∷ []

-- the records with nothing for any entry of these contexts
abbrev pub no_notes : List PlanContext → Notes
no_notes contexts = map (λ context. replicate (length context.entries) []) contexts

-- the record of the entry with these numbers
abbrev pub noted_at : Notes → EntryId → Option (List ℕ)
noted_at notes id = option_and_then (λ numbers. slice_get numbers id.entry) (slice_get notes id.context)

-- more numbers were added to the record of each entry
abbrev pub Grows : Notes → Notes → (EntryId → List ℕ) → Type 0
Grows old new more = (id : EntryId) → noted_at new id ≡ option_map (λ noted. noted ++ more id) (noted_at old id)

-- whether the place of the entry is among these
abbrev pub is_among : List EntryPlace → Entry → Bool
is_among places entry = list_any (same_place (place_of entry)) places

-- a number for the entry with these numbers, if its place is among these
abbrev pub for_one : List EntryPlace → EntryId → Entry → ℕ → EntryId → List ℕ
for_one places id entry from other = if same_id other id && is_among places entry then from ∷ [] else []

-- a number for each entry of a context that passes the test
abbrev pub for_each : PlanOf → (Entry → Bool) → ℕ → ℕ → EntryId → List ℕ
for_each plan test number from id = if id.context == number && passes plan test id then from ∷ [] else []

-- a number for each entry in the contexts of an order that shares its place with an entry in an earlier context
abbrev pub numbers_asked : PlanOf → ℕ → List ℕ → List ℕ → EntryId → List ℕ
numbers_asked plan from earlier [] id = []
numbers_asked plan from earlier (number ∷ order) id =
    for_each plan (some_shares plan earlier) number from id ++ numbers_asked plan from (earlier ++ number ∷ []) order id

-- the first so many contexts from which each entry is hidden
abbrev pub all_hidden : PlanOf → ℕ → EntryId → List ℕ
all_hidden plan count id = filter (λ from. passes plan (λ entry. is_hidden plan id entry from) id) (range_with_len 0 count)

-- the record of each entry has the contexts from which it is hidden
abbrev pub AreHidden : PlanOf → Notes → Type 0
AreHidden plan notes = (id : EntryId) (entry : Entry) → entry_at plan id ≡ Some entry → noted_at notes id ≡ Some (hidden_from plan id entry)
