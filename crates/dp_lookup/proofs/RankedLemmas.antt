-- The first of a context's ranked entries that passes a test is the least of those that pass.
use Rattle.std.proofs.Common.{◌≡◌, ℕ, zero, suc, ◌<◌, Bool, true, false, cond, true≢false, List, [], ◌∷◌, length, Option, Some, None, MatchOption, inl, inr, ◌⊎◌, arith, refl, sym, ap, ◌∙◌, Less}
use Rattle.std.specs.Prelude.{slice_get, All}
use Rattle.std.specs.List.{find, range_with_len}
use Rattle.std.specs.Option.{option_and_then, option_map_or}
use Rattle.std.proofs.lemmas.Bool.{cases_order}
use Rattle.std.proofs.lemmas.List.Elements.{All-map}
use Rattle.std.proofs.lemmas.List.FromFn.{length-map-range_with_len, get_or-map-range_with_len}
use Rattle.std.proofs.lemmas.List.Sorted.{All-permutation, Contains-permutation}
use Rattle.std.proofs.lemmas.Option.{slice_get_within, slice_get_read, get_or_from_slice_get, same_Some}
use Rattle.dp_plan.specs.Contexts.{PlanContext}
use Rattle.dp_plan.specs.Lookup.{entry_at, IsRankedAt}
use Rattle.dp_plan.specs.Plan.{PlanOf}
use Rattle.dp_plan.specs.Ranking.{entry_cmp, ids_of, ranked_entry, IsRanking}
use Rattle.dp_plan.specs.declared.entry.Entry.{Entry}
use Rattle.dp_plan.specs.declared.entry.EntryId.{EntryId}
use Rattle.dp_lookup.specs.FoundEntry.{passes, passing, least}
use Rattle.dp_lookup.proofs.FoundLemmas.{NoneIn, IsLeastIn, least_asked}

-- the entry passes the test
abbrev Passes : (Entry → Bool) → Entry → Type 0
Passes test entry = test entry ≡ true

-- none of the first entries, this many, is a wanted one
abbrev NoneBefore : PlanOf → List EntryId → (Entry → Type 0) → ℕ → Type 0
NoneBefore plan ids Wanted count =
    (k : ℕ) (id : EntryId) (entry : Entry) → k < count → slice_get ids k ≡ Some id → entry_at plan id ≡ Some entry → Wanted entry → ⊥

-- the first of these entries that is wanted
record IsFirst (plan : PlanOf) (ids : List EntryId) (Wanted : Entry → Type 0) (id : EntryId) : Type 0 where
  place : ℕ
  entry : Entry
  at_place : slice_get ids place ≡ Some id
  there : entry_at plan id ≡ Some entry
  asked : Wanted entry
  before : NoneBefore plan ids Wanted place

-- the wanted entry of the context that comes before every other one
record IsFirstIn (plan : PlanOf) (number : ℕ) (Wanted : Entry → Type 0) (id : EntryId) : Type 0 where
  entry : Entry
  here : id.context ≡ number
  there : entry_at plan id ≡ Some entry
  asked : Wanted entry
  first : (other : EntryId) (a : Entry) → other.context ≡ number → entry_at plan other ≡ Some a → Wanted a → (other ≡ id) ⊎ (entry_cmp entry a ≡ Less)

-- ---- the first of a list

-- the first one found in a list, in terms of the places before it
first_of : (plan : PlanOf) (test : Entry → Bool) (ids : List EntryId) → MatchOption (find (passes plan test) ids) (NoneBefore plan ids (Passes test) (length ids)) (IsFirst plan ids (Passes test))
first_of plan test [] = λ k id entry below at_place there asked. absurd (omega (arith, below))
first_of plan test (x ∷ ids) = by (entry_at plan x) refl (first_of plan test ids)
  where
    unless : (none : (entry : Entry) → entry_at plan x ≡ Some entry → Passes test entry → ⊥) → (count : ℕ) → NoneBefore plan ids (Passes test) count → NoneBefore plan (x ∷ ids) (Passes test) (suc count)
    unless none count rest zero id entry below at_place there asked = none entry (ap (entry_at plan) (same_Some x id at_place) ∙ there) asked
    unless none count rest (suc k) id entry below at_place there asked = rest k id entry (omega (arith, below)) at_place there asked

    later : (none : (entry : Entry) → entry_at plan x ≡ Some entry → Passes test entry → ⊥) → (o : Option EntryId) → MatchOption o (NoneBefore plan ids (Passes test) (length ids)) (IsFirst plan ids (Passes test)) → MatchOption o (NoneBefore plan (x ∷ ids) (Passes test) (suc (length ids))) (IsFirst plan (x ∷ ids) (Passes test))
    later none None rest = unless none (length ids) rest
    later none (Some id) rest = record {
      place = suc rest.place;
      entry = rest.entry;
      at_place = rest.at_place;
      there = rest.there;
      asked = rest.asked;
      before = unless none rest.place rest.before;
    }

    by_test : (entry : Entry) → entry_at plan x ≡ Some entry → (t : Bool) → test entry ≡ t → MatchOption (find (passes plan test) ids) (NoneBefore plan ids (Passes test) (length ids)) (IsFirst plan ids (Passes test)) → MatchOption (cond t (Some x) (find (passes plan test) ids)) (NoneBefore plan (x ∷ ids) (Passes test) (suc (length ids))) (IsFirst plan (x ∷ ids) (Passes test))
    by_test entry there true e rest = record {
      place = 0;
      entry = entry;
      at_place = refl;
      there = there;
      asked = e;
      before = λ k id a below at_place there asked. absurd (omega (arith, below));
    }
    by_test entry there false e rest =
        later (λ a here asked. true≢false (sym asked ∙ (ap test (same_Some a entry (sym here ∙ there)) ∙ e))) (find (passes plan test) ids) rest

    by : (o : Option Entry) → entry_at plan x ≡ o → MatchOption (find (passes plan test) ids) (NoneBefore plan ids (Passes test) (length ids)) (IsFirst plan ids (Passes test)) → MatchOption (cond (option_map_or test o false) (Some x) (find (passes plan test) ids)) (NoneBefore plan (x ∷ ids) (Passes test) (suc (length ids))) (IsFirst plan (x ∷ ids) (Passes test))
    by None there rest = later (λ a here asked. (let none : None ≡ Some a = sym there ∙ here in absurd cc)) (find (passes plan test) ids) rest
    by (Some entry) there rest = by_test entry there (test entry) refl rest

-- ---- one context

abbrev id_at : ℕ → ℕ → EntryId
id_at number k = record { context = number; entry = k }

-- the numbers in a ranking are those of its context
ids_here : (number : ℕ) (entries : List Entry) (ids : List EntryId) → IsRanking number entries ids → All (λ (id : EntryId). id.context ≡ number) ids
ids_here number entries ids ranking =
    All-permutation (λ (id : EntryId). id.context ≡ number) (ids_of number entries) ids ranking.whole
    (All-map (λ (id : EntryId). id.context ≡ number) (id_at number) (range_with_len 0 (length entries)) (λ k d below. refl))

-- each entry has a place in the ranking
place_of : (number : ℕ) (entries : List Entry) (ids : List EntryId) → IsRanking number entries ids → (k : ℕ) → k < length entries → (place : ℕ) × (slice_get ids place ≡ Some (id_at number k))
place_of number entries ids ranking k within =
    let size = length-map-range_with_len (id_at number) 0 (length entries) in
    let here = get_or-map-range_with_len (id_at number) 0 (length entries) k k (id_at number k) within (omega arith) in
    let held = Contains-permutation (ids_of number entries) ids (id_at number k) ranking.whole (k, omega (arith, size, within), here) in
    (held.0, slice_get_read ids (length ids) held.0 (id_at number k) refl held.1 (sym held.2))

-- the entry with a number, in its context
entry_in : (plan : PlanOf) (number : ℕ) (context : PlanContext) (id : EntryId) (entry : Entry) → slice_get plan.contexts number ≡ Some context → id.context ≡ number → entry_at plan id ≡ Some entry → slice_get context.entries id.entry ≡ Some entry
entry_in plan number context id entry known here there =
    sym (ap (option_and_then (λ (c : PlanContext). slice_get c.entries id.entry)) (ap (slice_get plan.contexts) here ∙ known)) ∙ there

no_entry : (plan : PlanOf) (number : ℕ) (id : EntryId) (entry : Entry) → slice_get plan.contexts number ≡ None → id.context ≡ number → entry_at plan id ≡ Some entry → ⊥
no_entry plan number id entry unknown here there =
    let none : entry_at plan id ≡ None = ap (option_and_then (λ (c : PlanContext). slice_get c.entries id.entry)) (ap (slice_get plan.contexts) here ∙ unknown) in
    absurd cc

-- the place of an entry of the context
ranked_place : (plan : PlanOf) (number : ℕ) (context : PlanContext) (ids : List EntryId) (id : EntryId) (entry : Entry) → slice_get plan.contexts number ≡ Some context → IsRanking number context.entries ids → id.context ≡ number → entry_at plan id ≡ Some entry → (place : ℕ) × (slice_get ids place ≡ Some id)
ranked_place plan number context ids id entry known ranking here there =
    let inside = entry_in plan number context id entry known here there in
    let place = place_of number context.entries ids ranking id.entry (slice_get_within context.entries id.entry entry inside) in
    let same : id_at number id.entry ≡ id = λ i. record { context = sym here i; entry = id.entry } in
    (place.0, place.1 ∙ ap Some same)

ranked_there : (entries : List Entry) (ids : List EntryId) (place : ℕ) (id : EntryId) (entry : Entry) → slice_get ids place ≡ Some id → slice_get entries id.entry ≡ Some entry → ranked_entry entries ids place ≡ Some entry
ranked_there entries ids place id entry at_place there = ap (option_and_then (λ (id : EntryId). slice_get entries id.entry)) at_place ∙ there

in_context : (plan : PlanOf) (number : ℕ) (ids : List EntryId) (Wanted : Entry → Type 0) (r : Option EntryId) (o : Option PlanContext) → slice_get plan.contexts number ≡ o → MatchOption o (ids ≡ []) (λ (context : PlanContext). IsRanking number context.entries ids) → MatchOption r (NoneBefore plan ids Wanted (length ids)) (IsFirst plan ids Wanted) → MatchOption r (NoneIn plan number Wanted) (IsFirstIn plan number Wanted)
in_context plan number ids Wanted None None known ranking none = λ id entry here there asked. no_entry plan number id entry known here there
in_context plan number ids Wanted (Some id) None known ranking first =
    let nothing : slice_get ids first.place ≡ None = ap (λ (l : List EntryId). slice_get l first.place) ranking in
    let something = first.at_place in
    absurd cc
in_context plan number ids Wanted None (Some context) known ranking none = λ id entry here there asked.
    let place = ranked_place plan number context ids id entry known ranking here there in
    none place.0 id entry (slice_get_within ids place.0 id place.1) place.1 there asked
in_context plan number ids Wanted (Some id) (Some context) known ranking first = record {
  entry = first.entry;
  here = here;
  there = first.there;
  asked = first.asked;
  first = λ other a other_here there asked.
      let place = ranked_place plan number context ids other a known ranking other_here there in
      elim (cases_order place.0 first.place) [
        | inl same ↦ inl (same_Some other id (sym place.1 ∙ (ap (slice_get ids) same ∙ first.at_place)))
        | inr (inl below) ↦ absurd (first.before place.0 other a below place.1 there asked)
        | inr (inr above) ↦ inr (ranking.rising first.place place.0 first.entry a above
            (ranked_there context.entries ids first.place id first.entry first.at_place (entry_in plan number context id first.entry known here first.there))
            (ranked_there context.entries ids place.0 other a place.1 (entry_in plan number context other a known other_here there)))
      ];
}
  where
    here : id.context ≡ number
    here =
        let all = ids_here number context.entries ids ranking first.place id (slice_get_within ids first.place id first.at_place) in
        ap (λ (x : EntryId). x.context) (sym (get_or_from_slice_get ids first.place id id first.at_place)) ∙ all

-- the first of the ranked entries that is wanted comes before every other one of the context
first_in : (plan : PlanOf) (number : ℕ) (ids : List EntryId) (Wanted : Entry → Type 0) (r : Option EntryId) → IsRankedAt plan number ids → MatchOption r (NoneBefore plan ids Wanted (length ids)) (IsFirst plan ids Wanted) → MatchOption r (NoneIn plan number Wanted) (IsFirstIn plan number Wanted)
first_in plan number ids Wanted r ranking found = in_context plan number ids Wanted r (slice_get plan.contexts number) refl ranking found

-- a least one and one before every other are the same
one_least : (plan : PlanOf) (number : ℕ) (Wanted : Entry → Type 0) (r o : Option EntryId) → MatchOption r (NoneIn plan number Wanted) (IsFirstIn plan number Wanted) → MatchOption o (NoneIn plan number Wanted) (IsLeastIn plan number Wanted) → r ≡ o
one_least plan number Wanted None None none least = refl
one_least plan number Wanted None (Some id) none least = absurd (none id least.entry least.here least.there least.asked)
one_least plan number Wanted (Some id) None first none = absurd (none id first.entry first.here first.there first.asked)
one_least plan number Wanted (Some id) (Some other) first least = elim (first.first other least.entry least.here least.there least.asked) [
  | inl same ↦ ap Some (sym same)
  | inr less ↦ absurd (least.least id first.entry first.here first.there first.asked less)
]

-- the first of the ranked entries that passes is the least of those that pass
pub first_is_least : (plan : PlanOf) (test : Entry → Bool) (number : ℕ) (ids : List EntryId) → IsRankedAt plan number ids → find (passes plan test) ids ≡ least plan (passing plan test number)
first_is_least plan test number ids ranking =
    one_least plan number (Passes test) (find (passes plan test) ids) (least plan (passing plan test number))
    (first_in plan number ids (Passes test) (find (passes plan test) ids) ranking (first_of plan test ids))
    (least_asked plan test (Passes test) (λ id entry there. (λ e. e, λ e. e)) number)
