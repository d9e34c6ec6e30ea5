-- The extensions that match a dialled text, in the order in which a look-up tries them, and what decides about each.
use Rattle.std.specs.Prelude.{◌≡◌, ℕ, ◌+◌, Bool, true, false, ◌&&◌, ◌==◌, List, [], ◌∷◌, map, Option, None, Some, if◌then◌else◌}
use Rattle.std.specs.List.{filter_map, find, flat_map}
use Rattle.std.specs.Option.{option_map, option_map_or}
use Rattle.std.specs.Ordering.{is_lt}
use Rattle.dp_plan.specs.Extensions.{same_name}
use Rattle.dp_plan.specs.Lookup.{entry_at}
use Rattle.dp_plan.specs.Plan.{PlanOf}
use Rattle.dp_plan.specs.Ranking.{id_cmp, ids_of}
use Rattle.dp_plan.specs.declared.entry.Entry.{Entry}
use Rattle.dp_plan.specs.declared.entry.EntryId.{EntryId}
use Rattle.dp_lookup.specs.FoundEntry.{entries_at, found_entry, matches_name, passes}
use Rattle.dp_audit.specs.declared.candidate.Candidate.{Candidate}
use Rattle.dp_audit.specs.declared.candidate.Matching.{Matching}
use Rattle.dp_audit.specs.declared.candidate.Verdict.{Verdict}
use Rattle.dp_audit.specs.declared.candidate.Verdict.TheVariants.{Answers, LessSpecific, LaterContext, NoSuchPriority}

-- ---- the order of the entries of a context

-- the numbers with one more, before the first whose entry is greater than its own
abbrev pub insert_in_order : List Entry → EntryId → List EntryId → List EntryId
insert_in_order entries id [] = id ∷ []
insert_in_order entries id (other ∷ ids) =
    if is_lt (id_cmp entries id other) then id ∷ other ∷ ids else other ∷ insert_in_order entries id ids

-- the numbers in the order of their entries: by name, the more specific first, then by priority
abbrev pub in_order : List Entry → List EntryId → List EntryId
in_order entries [] = []
in_order entries (id ∷ ids) = insert_in_order entries id (in_order entries ids)

-- the entries of the context with a number, in the order in which a look-up tries them
unfoldable pub ranked_of : PlanOf → ℕ → List EntryId
ranked_of plan number = in_order (entries_at plan number) (ids_of number (entries_at plan number))

-- ---- extensions

-- whether the entries with these numbers have the same name
abbrev pub have_one_name : PlanOf → EntryId → EntryId → Bool
have_one_name plan a b =
    option_map_or (λ x. option_map_or (λ y. same_name x.name y.name) (entry_at plan b) false) (entry_at plan a) false

-- the first of the extensions with one more entry in front of its own
abbrev pub to_first : EntryId → List (List EntryId) → List (List EntryId)
to_first id [] = (id ∷ []) ∷ []
to_first id (extension ∷ extensions) = (id ∷ extension) ∷ extensions

-- the extensions of ranked entries: groups of adjacent entries with the same name
abbrev pub extensions : PlanOf → List EntryId → List (List EntryId)
extensions plan [] = []
extensions plan (id ∷ []) = (id ∷ []) ∷ []
extensions plan (id ∷ next ∷ ids) =
    if have_one_name plan id next then to_first id (extensions plan (next ∷ ids)) else (id ∷ []) ∷ extensions plan (next ∷ ids)

-- the number of entries of the first extension
abbrev pub first_size : PlanOf → List EntryId → ℕ
first_size plan [] = 0
first_size plan (id ∷ []) = 1
first_size plan (id ∷ next ∷ ids) = if have_one_name plan id next then 1 + first_size plan (next ∷ ids) else 1

-- ---- which extensions match

-- whether the name of the entry with this number matches the text
abbrev pub is_matched : PlanOf → List ℕ → EntryId → Bool
is_matched plan text id = passes plan (λ entry. matches_name entry.name text) id

-- whether the entry with this number has the priority
abbrev pub has_number : PlanOf → ℕ → EntryId → Bool
has_number plan priority id = passes plan (λ entry. entry.priority == priority) id

-- an extension, represented by its entry with the priority or, if there is none, by its first entry
abbrev pub by_priority : EntryId → Option EntryId → Matching
by_priority first None = record { id = first; has_priority = false }
by_priority first (Some id) = record { id = id; has_priority = true }

-- the extension of these entries, if its name matches
abbrev pub matching_of : PlanOf → List ℕ → ℕ → List EntryId → Option Matching
matching_of plan text priority [] = None
matching_of plan text priority (first ∷ ids) =
    if is_matched plan text first then Some (by_priority first (find (has_number plan priority) (first ∷ ids))) else None

-- the extensions of ranked entries whose names match
abbrev pub matching_in : PlanOf → List ℕ → ℕ → List EntryId → List Matching
matching_in plan text priority ids = filter_map (matching_of plan text priority) (extensions plan ids)

-- the matching extensions of all contexts in a search order
abbrev pub all_matching : PlanOf → List ℕ → List ℕ → ℕ → List Matching
all_matching plan order text priority = flat_map (λ number. matching_in plan text priority (ranked_of plan number)) order

-- ---- what decides

-- the entry of the first extension that has the priority
abbrev pub answer_of : List Matching → Option EntryId
answer_of list = option_map (λ m. m.id) (find (λ m. m.has_priority) list)

-- whether two numbers belong to the same entry
abbrev pub same_id : EntryId → EntryId → Bool
same_id a b = a.context == b.context && a.entry == b.entry

-- what decides about an extension, given the entry that answers
abbrev pub verdict_of : Option EntryId → Matching → Verdict
verdict_of answer m =
    if m.has_priority
    then (if option_map_or (λ found. same_id found m.id) answer false then Answers
    else (if option_map_or (λ found. found.context == m.id.context) answer false then LessSpecific else LaterContext))
    else NoSuchPriority

abbrev pub candidate_of : Option EntryId → Matching → Candidate
candidate_of answer m = record { id = m.id; verdict = verdict_of answer m }

-- the matching extensions of all contexts in a search order, and what decides about each
unfoldable pub candidates_of : PlanOf → List ℕ → List ℕ → ℕ → List Candidate
candidates_of plan order text priority =
    map (candidate_of (found_entry plan order text priority)) (all_matching plan order text priority)

-- ---- the candidate that answers

abbrev pub is_answer : Verdict → Bool
is_answer Answers = true
is_answer LessSpecific = false
is_answer LaterContext = false
is_answer NoSuchPriority = false

abbrev pub answers : Candidate → Bool
answers candidate = is_answer candidate.verdict

-- a candidate that answers has the entry that answers
abbrev pub IsOfAnswer : Option EntryId → Candidate → Type 0
IsOfAnswer found candidate = candidate.verdict ≡ Answers → found ≡ Some candidate.id
