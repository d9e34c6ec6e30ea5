-- Marks of entries, with one more.
use Rattle.std.proofs.Common.{◌≡◌, ℕ, zero, suc, ◌<◌, ◌==◌, ◌⊎◌, inl, inr, Bool, true, false, true≢false, cond, not, ◌&&◌, List, [], ◌∷◌, ◌++◌, length, slice_get, Option, Some, None, option_and_then, option_map, if◌then◌else◌, count_by, arith, refl, sym, ap, subst, ◌∙◌}
use Rattle.std.specs.Prelude.{replicate}
use Rattle.std.specs.Option.{option_map_or}
use Rattle.std.proofs.lemmas.Bool.{cases_lt}
use Rattle.std.proofs.lemmas.List.Sums.{sum_by-cons}
use Rattle.std.proofs.lemmas.Option.{none-some, same_Some, slice_get-map, slice_get_within}
use Rattle.dp_conf.specs.Changes.{changed_at}
use Rattle.dp_plan.specs.Contexts.{PlanContext}
use Rattle.dp_plan.specs.Plan.{PlanOf}
use Rattle.dp_plan.specs.declared.entry.Entry.{Entry}
use Rattle.dp_plan.specs.declared.entry.EntryId.{EntryId}
use Rattle.dp_audit.specs.Candidates.{same_id}
use Rattle.dp_audit.specs.steps.Marks.{Adds, HasRoom, Marks, Sees, if_unmarked, is_marked, is_unmarked, mark_at, no_marks, unmarked_count, with_mark}
use Rattle.dp_audit.specs.steps.Walks.{IsFrom}
use Rattle.dp_audit.proofs.CandidatesLemmas.{same_id-itself, same_id-same}
use Rattle.dp_audit.proofs.HidingLemmas.{same_map, slice_get-changed}
use Rattle.dp_audit.proofs.WalkLemmas.{get_before, get_last, length_more}

-- the mark of an entry after one more was marked
mark_at-with_mark : (id other : EntryId) (marks : Marks) → mark_at (with_mark id marks) other ≡ option_map (λ mark. if same_id other id then true else mark) (mark_at marks other)
mark_at-with_mark id other marks =
    ap (option_and_then (λ (entries : List Bool). slice_get entries other.entry)) (slice_get-changed (changed_at (λ (mark : Bool). true) id.entry) id.context other.context marks)
    ∙ by (slice_get marks other.context) (other.context == id.context)
  where
    by : (entries : Option (List Bool)) (b : Bool) →
        option_and_then (λ (entries : List Bool). slice_get entries other.entry) (option_map (λ entries. if b then changed_at (λ (mark : Bool). true) id.entry entries else entries) entries)
        ≡ option_map (λ mark. if b && other.entry == id.entry then true else mark) (option_and_then (λ (entries : List Bool). slice_get entries other.entry) entries)
    by None b = refl
    by (Some entries) true = slice_get-changed (λ (mark : Bool). true) id.entry other.entry entries
    by (Some entries) false = same_map (slice_get entries other.entry)

-- the mark of an entry that is not marked
unmarked_there : (marks : Marks) (id : EntryId) → is_unmarked marks id ≡ true → mark_at marks id ≡ Some false
unmarked_there marks id unmarked = by (mark_at marks id) refl unmarked
  where
    by : (o : Option Bool) → mark_at marks id ≡ o → option_map_or not o false ≡ true → mark_at marks id ≡ Some false
    by None is unmarked = absurd (true≢false (sym unmarked))
    by (Some true) is unmarked = absurd (true≢false (sym unmarked))
    by (Some false) is unmarked = is

module _ (id : EntryId) (marks : Marks) where
  abbrev more : Marks
  more = with_mark id marks

  -- what was marked stays marked
  pub mark_kept : (other : EntryId) → is_marked marks other ≡ true → is_marked more other ≡ true
  mark_kept other here =
      ap (λ (o : Option Bool). option_map_or (λ mark. mark) o false) (mark_at-with_mark id other marks) ∙ by (mark_at marks other) (same_id other id) here
    where
      by : (o : Option Bool) (same : Bool) → option_map_or (λ mark. mark) o false ≡ true
          → option_map_or (λ mark. mark) (option_map (λ mark. if same then true else mark) o) false ≡ true
      by None same here = here
      by (Some mark) true here = refl
      by (Some mark) false here = here

  -- the entry that had a mark is marked
  pub mark_here : (mark : Bool) → mark_at marks id ≡ Some mark → is_marked more id ≡ true
  mark_here mark there =
      ap (λ (o : Option Bool). option_map_or (λ mark. mark) o false)
      (mark_at-with_mark id id marks
      ∙ (ap (λ (same : Bool). option_map (λ (mark : Bool). if same then true else mark) (mark_at marks id)) (same_id-itself id)
      ∙ ap (option_map (λ (mark : Bool). true)) there))

  -- nothing else is
  pub mark_only : (other : EntryId) → is_marked more other ≡ true → (is_marked marks other ≡ true) ⊎ (other ≡ id)
  mark_only other here =
      by (mark_at marks other) (same_id other id) refl
      (sym (ap (λ (o : Option Bool). option_map_or (λ mark. mark) o false) (mark_at-with_mark id other marks)) ∙ here)
    where
      by : (o : Option Bool) (same : Bool) → same_id other id ≡ same
          → option_map_or (λ mark. mark) (option_map (λ mark. if same then true else mark) o) false ≡ true
          → (option_map_or (λ mark. mark) o false ≡ true) ⊎ (other ≡ id)
      by None same is here = inl here
      by (Some mark) true is here = inr (same_id-same other id is)
      by (Some mark) false is here = inl here

  -- what has a mark then had one
  pub mark_room : (other : EntryId) → mark_at more other ≡ None → mark_at marks other ≡ None
  mark_room other none = by (mark_at marks other) (sym (mark_at-with_mark id other marks) ∙ none)
    where
      by : (o : Option Bool) → option_map (λ mark. if same_id other id then true else mark) o ≡ None → o ≡ None
      by None none = refl
      by (Some mark) none = absurd (none-some _ (sym none))

-- ---- the number of entries that are not marked

-- one that is not marked counts
abbrev count_of_mark : Bool → ℕ
count_of_mark mark = cond (not mark) 1 0

abbrev marked_at : ℕ → List Bool → List Bool
marked_at k entries = changed_at (λ mark. true) k entries

fewer_in : (entries : List Bool) (k : ℕ) → slice_get entries k ≡ Some false → count_by not (marked_at k entries) < count_by not entries
fewer_in [] k there = absurd (none-some false there)
fewer_in (mark ∷ entries) zero there = by mark (same_Some mark false there)
  where
    by : (mark : Bool) → mark ≡ false → count_by not (true ∷ entries) < count_by not (mark ∷ entries)
    by true is = absurd (true≢false is)
    by false is = omega (arith, sum_by-cons count_of_mark true entries, sum_by-cons count_of_mark false entries)
fewer_in (mark ∷ entries) (suc k) there =
    let fewer = fewer_in entries k there in
    omega (arith, fewer, sum_by-cons count_of_mark mark (marked_at k entries), sum_by-cons count_of_mark mark entries)

fewer_by : (context entry : ℕ) (marks : Marks) → option_and_then (λ entries. slice_get entries entry) (slice_get marks context) ≡ Some false
    → unmarked_count (changed_at (marked_at entry) context marks) < unmarked_count marks
fewer_by context entry [] there = absurd (none-some false there)
fewer_by zero entry (entries ∷ marks) there =
    let fewer = fewer_in entries entry there in
    omega (arith, fewer, sum_by-cons (count_by not) (marked_at entry entries) marks, sum_by-cons (count_by not) entries marks)
fewer_by (suc context) entry (entries ∷ marks) there =
    let fewer = fewer_by context entry marks there in
    omega (arith, fewer, sum_by-cons (count_by not) entries (changed_at (marked_at entry) context marks), sum_by-cons (count_by not) entries marks)

pub unmarked_fewer : (id : EntryId) (marks : Marks) → is_unmarked marks id ≡ true → unmarked_count (with_mark id marks) < unmarked_count marks
unmarked_fewer id marks unmarked = fewer_by id.context id.entry marks (unmarked_there marks id unmarked)

-- ---- the marks of a path

pub adds_none : (marks : Marks) → Adds marks [] marks
adds_none marks = record {
  kept = λ id here. here;
  taken = λ id from. absurd (none-some id from.there);
  only = λ id here. inl here;
  room = λ id none. none;
}

from_more : (path : List EntryId) (more id : EntryId) → IsFrom path 0 id → IsFrom (path ++ more ∷ []) 0 id
from_more path more id from =
    record { number = from.number; late = omega arith; there = get_before path more from.number (slice_get_within path from.number id from.there) ∙ from.there }

from_last : (path : List EntryId) (more : EntryId) → IsFrom (path ++ more ∷ []) 0 more
from_last path more = record { number = length path; late = omega arith; there = get_last path more (length path) refl }

-- an element of the longer path
from_cases : (path : List EntryId) (more id : EntryId) → IsFrom (path ++ more ∷ []) 0 id → IsFrom path 0 id ⊎ (more ≡ id)
from_cases path more id from = elim (cases_lt from.number (length path)) [
  | inl early ↦ inl (record { number = from.number; late = omega arith; there = sym (get_before path more from.number early) ∙ from.there })
  | inr late ↦
      let within : from.number < length (path ++ more ∷ []) = slice_get_within (path ++ more ∷ []) from.number id from.there in
      let last : from.number ≡ length path = omega (arith, late, within, length_more path more) in
      inr (same_Some more id (sym (get_last path more from.number last) ∙ from.there))
]

pub adds_more : (old : Marks) (path : List EntryId) (marks : Marks) (id : EntryId) → Adds old path marks → is_unmarked marks id ≡ true → Adds old (path ++ id ∷ []) (with_mark id marks)
adds_more old path marks id adds unmarked = record {
  kept = λ other here. mark_kept id marks other (adds.kept other here);
  taken = λ other from. elim (from_cases path id other from) [
    | inl early ↦ mark_kept id marks other (adds.taken other early)
    | inr same ↦ subst (λ (x : EntryId). is_marked (with_mark id marks) x ≡ true) same (mark_here id marks false (unmarked_there marks id unmarked))
  ];
  only = λ other here. elim (mark_only id marks other here) [
    | inl earlier ↦ elim (adds.only other earlier) [ inl among ↦ inl among | inr from ↦ inr (from_more path id other from) ]
    | inr same ↦ inr (subst (λ (x : EntryId). IsFrom (path ++ id ∷ []) 0 x) (sym same) (from_last path id))
  ];
  room = λ other none. adds.room other (mark_room id marks other none);
}

-- an end that is kept is this entry, and it is not marked
pub unmarked_kept : (marks : Marks) (end : Option EntryId) (id : EntryId) → if_unmarked marks end ≡ Some id → (end ≡ Some id) × (is_unmarked marks id ≡ true)
unmarked_kept marks None id is = absurd (none-some id is)
unmarked_kept marks (Some other) id is = by (is_unmarked marks other) refl is
  where
    by : (b : Bool) → is_unmarked marks other ≡ b → (if b then Some other else None) ≡ Some id → (Some other ≡ Some id) × (is_unmarked marks id ≡ true)
    by true here is = (is, subst (λ (x : EntryId). is_unmarked marks x ≡ true) (same_Some other id is) here)
    by false here is = absurd (none-some id is)

-- an entry that is left out is marked, or has no mark
pub unmarked_left : (marks : Marks) (id : EntryId) → if_unmarked marks (Some id) ≡ None → (is_marked marks id ≡ true) ⊎ (mark_at marks id ≡ None)
unmarked_left marks id none = by (mark_at marks id) none
  where
    by : (o : Option Bool) → (if option_map_or not o false then Some id else None) ≡ None → (option_map_or (λ mark. mark) o false ≡ true) ⊎ (o ≡ None)
    by None none = inr refl
    by (Some true) none = inl refl
    by (Some false) none = absurd (none-some id (sym none))

-- ---- no marks

none_marked_in : (entries : List Entry) (k : ℕ) → option_map_or (λ mark. mark) (slice_get (replicate (length entries) false) k) false ≡ false
none_marked_in [] k = refl
none_marked_in (entry ∷ entries) zero = refl
none_marked_in (entry ∷ entries) (suc k) = none_marked_in entries k

no_room_in : (entries : List Entry) (k : ℕ) → slice_get (replicate (length entries) false) k ≡ None → slice_get entries k ≡ None
no_room_in [] k none = refl
no_room_in (entry ∷ entries) zero none = absurd (none-some false (sym none))
no_room_in (entry ∷ entries) (suc k) none = no_room_in entries k none

module _ (plan : PlanOf) where
  at_context : (id : EntryId) → mark_at (no_marks plan.contexts) id
      ≡ option_and_then (λ (entries : List Bool). slice_get entries id.entry) (option_map (λ (context : PlanContext). replicate (length context.entries) false) (slice_get plan.contexts id.context))
  at_context id =
      ap (option_and_then (λ (entries : List Bool). slice_get entries id.entry)) (slice_get-map (λ (context : PlanContext). replicate (length context.entries) false) plan.contexts id.context)

  pub none_marked : (id : EntryId) → is_marked (no_marks plan.contexts) id ≡ false
  none_marked id = ap (λ (o : Option Bool). option_map_or (λ mark. mark) o false) (at_context id) ∙ by (slice_get plan.contexts id.context)
    where
      by : (o : Option PlanContext) → option_map_or (λ mark. mark) (option_and_then (λ (entries : List Bool). slice_get entries id.entry) (option_map (λ (context : PlanContext). replicate (length context.entries) false) o)) false ≡ false
      by None = refl
      by (Some context) = none_marked_in context.entries id.entry

  pub no_marks_room : HasRoom plan (no_marks plan.contexts)
  no_marks_room id none = by (slice_get plan.contexts id.context) (sym (at_context id) ∙ none)
    where
      by : (o : Option PlanContext) → option_and_then (λ (entries : List Bool). slice_get entries id.entry) (option_map (λ (context : PlanContext). replicate (length context.entries) false) o) ≡ None
          → option_and_then (λ (context : PlanContext). slice_get context.entries id.entry) o ≡ None
      by None none = refl
      by (Some context) none = no_room_in context.entries id.entry none

-- ---- what is seen

pub sees_both : (plan : PlanOf) (a b c : Marks) (These Those All : EntryId → Type 0) → Sees plan a b These → Sees plan b c Those
    → ((id : EntryId) → All id → These id ⊎ Those id) → Sees plan a c All
sees_both plan a b c These Those All first second split = record {
  kept = λ id here. second.kept id (first.kept id here);
  these = λ id entry there one. elim (split id one) [
    | inl early ↦ second.kept id (first.these id entry there early)
    | inr late ↦ second.these id entry there late
  ];
}
