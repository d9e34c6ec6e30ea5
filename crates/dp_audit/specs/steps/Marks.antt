-- A step of the code: a mark for each entry of a dialplan, and the search for loops by such marks.
use Rattle.std.specs.Prelude.{◌≡◌, ℕ, ◌⊎◌, Bool, true, false, not, List, length, map, replicate, slice_get, Option, None, Some, if◌then◌else◌, sum_by, count_by}
use Rattle.std.specs.Option.{option_and_then, option_map_or}
use Rattle.dp_conf.specs.Changes.{changed_at}
use Rattle.dp_plan.specs.Contexts.{PlanContext}
use Rattle.dp_plan.specs.Lookup.{entry_at}
use Rattle.dp_plan.specs.Plan.{PlanOf}
use Rattle.dp_plan.specs.declared.entry.Entry.{Entry}
use Rattle.dp_plan.specs.declared.entry.EntryId.{EntryId}
use Rattle.dp_audit.specs.Loops.{is_before, successor}
use Rattle.dp_audit.specs.steps.Walks.{IsFrom, IsSearched}

-- a mark for each entry of each context
abbrev pub Marks : Type 0
Marks = List (List Bool)

-- the marks with no entry of these contexts marked
abbrev pub no_marks : List PlanContext → Marks
no_marks contexts = map (λ context. replicate (length context.entries) false) contexts

-- the mark of the entry with these numbers
abbrev pub mark_at : Marks → EntryId → Option Bool
mark_at marks id = option_and_then (λ entries. slice_get entries id.entry) (slice_get marks id.context)

-- whether an entry is marked; an entry without a mark is not
abbrev pub is_marked : Marks → EntryId → Bool
is_marked marks id = option_map_or (λ mark. mark) (mark_at marks id) false

-- whether an entry has a mark that is not set
abbrev pub is_unmarked : Marks → EntryId → Bool
is_unmarked marks id = option_map_or not (mark_at marks id) false

-- the entry, if there is one that is not marked
abbrev pub if_unmarked : Marks → Option EntryId → Option EntryId
if_unmarked marks None = None
if_unmarked marks (Some id) = if is_unmarked marks id then Some id else None

-- the marks with one more entry marked
abbrev pub with_mark : EntryId → Marks → Marks
with_mark id marks = changed_at (changed_at (λ mark. true) id.entry) id.context marks

-- the number of entries that are not marked
abbrev pub unmarked_count : Marks → ℕ
unmarked_count marks = sum_by (count_by not) marks

-- each entry of the dialplan has a mark
abbrev pub HasRoom : PlanOf → Marks → Type 0
HasRoom plan marks = (id : EntryId) → mark_at marks id ≡ None → entry_at plan id ≡ None

-- the entries of a path were marked too
pub record Adds (old : Marks) (path : List EntryId) (new : Marks) : Type 0 where
  pub kept : (id : EntryId) → is_marked old id ≡ true → is_marked new id ≡ true
  pub taken : (id : EntryId) → IsFrom path 0 id → is_marked new id ≡ true
  pub only : (id : EntryId) → is_marked new id ≡ true → (is_marked old id ≡ true) ⊎ IsFrom path 0 id
  pub room : (id : EntryId) → mark_at new id ≡ None → mark_at old id ≡ None

-- the marks are those of a search for loops
pub record AreSearched (onward : List ℕ → Bool) (plan : PlanOf) (seen firsts : Marks) : Type 0 where
  pub seen_room : HasRoom plan seen
  pub firsts_room : HasRoom plan firsts
  pub searched : IsSearched (successor onward plan) is_before (is_marked seen) (is_marked firsts)

-- the search has seen these entries, and those that it had seen before
pub record Sees (plan : PlanOf) (old new : Marks) (These : EntryId → Type 0) : Type 0 where
  pub kept : (id : EntryId) → is_marked old id ≡ true → is_marked new id ≡ true
  pub these : (id : EntryId) (entry : Entry) → entry_at plan id ≡ Some entry → These id → is_marked new id ≡ true
