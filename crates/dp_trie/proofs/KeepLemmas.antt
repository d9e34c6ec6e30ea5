-- What is found among the kept entries is what a look-up in the dialplan finds.
use Rattle.std.proofs.Common.{◌≡◌, ℕ, zero, suc, ◌+◌, ◌<◌, ◌≤◌, Bool, true, false, cond, List, [], ◌∷◌, ◌++◌, length, map, take, drop, Option, Some, None, MatchOption, inl, inr, arith, refl, sym, ap, subst, ◌∙◌, Less, Greater, nat_cmp, ◌⊎◌, add-one, length-append}
use Rattle.std.specs.Prelude.{slice_get, filter_map, find, sum_by, is_some}
use Rattle.std.specs.List.{AllByRecursion, range_with_len, cons_option}
use Rattle.std.specs.Option.{option_and_then, option_map, option_map_or, option_or}
use Rattle.std.specs.Ordering.{ordering_then}
use Rattle.std.proofs.lemmas.List.Elements.{recursion_from_All, All-map}
use Rattle.std.proofs.lemmas.List.Sums.{sum_by-append, sum_by-take-drop}
use Rattle.std.proofs.lemmas.List.FromFn.{length-map-range_with_len, get_or-map-range_with_len}
use Rattle.std.proofs.lemmas.List.Sorted.{All-permutation}
use Rattle.std.proofs.lemmas.Option.{slice_get_cases, slice_get_past, same_Some}
use Rattle.dp_pattern.specs.Name.{Meaning, Plain, Pattern}
use Rattle.dp_pattern.specs.Order.{name_cmp}
use Rattle.dp_plan.specs.Contexts.{PlanContext}
use Rattle.dp_plan.specs.Lookup.{entry_at, IsRankedAt}
use Rattle.dp_plan.specs.Plan.{PlanOf}
use Rattle.dp_plan.specs.Ranking.{ids_of, ranked_entry, IsRanking}
use Rattle.dp_plan.specs.declared.entry.Entry.{Entry}
use Rattle.dp_plan.specs.declared.entry.EntryId.{EntryId}
use Rattle.dp_lookup.specs.FoundEntry.{passes, found_by, priority_at}
use Rattle.dp_lookup.proofs.RankedLemmas.{first_is_least}
use Rattle.dp_trie.specs.Known.{Known, KeptContext, known_of, known_at, KeepsEntries, Keeps, class_count, kept_at, found_first, FindsPattern}
use Rattle.dp_trie.specs.steps.Ranked.{IsPattern, ArePlainFirst, AreInOrder, known_cmp}
use Rattle.dp_trie.proofs.BuildLemmas.{take-get}
use Rattle.dp_trie.proofs.RisingLemmas.{sorted-places}
use Rattle.dp_trie.proofs.TreeLemmas.{drop-get}

-- ---- the entries of a ranking

abbrev id_at : ℕ → ℕ → EntryId
id_at number k = record { context = number; entry = k }

-- the number of an entry
record IsThere (plan : PlanOf) (id : EntryId) : Type 0 where
  known : Known
  there : known_at plan id ≡ Some known

there_in : (plan : PlanOf) (number : ℕ) (context : PlanContext) (k : ℕ) → slice_get plan.contexts number ≡ Some context → k < length context.entries → IsThere plan (id_at number k)
there_in plan number context k here within = elim (slice_get_cases context.entries k).1 [
  | inl some ↦ record {
    known = known_of (id_at number k) some.0;
    there = ap (option_map (known_of (id_at number k))) (ap (option_and_then (λ (c : PlanContext). slice_get c.entries k)) here ∙ some.2);
  }
  | inr past ↦ (let few = past.0 in absurd (omega (arith, few, within)))
]

all_there : (plan : PlanOf) (number : ℕ) (context : PlanContext) (ids : List EntryId) → slice_get plan.contexts number ≡ Some context → IsRanking number context.entries ids → AllByRecursion (IsThere plan) ids
all_there plan number context ids here ranking =
    recursion_from_All (IsThere plan) ids
    (All-permutation (IsThere plan) (ids_of number context.entries) ids ranking.whole
    (λ k d below.
    let size = length-map-range_with_len (id_at number) 0 (length context.entries) in
    let within : k < length context.entries = omega (arith, size, below) in
    subst (IsThere plan) (sym (get_or-map-range_with_len (id_at number) 0 (length context.entries) k k d within (omega arith)))
    (there_in plan number context k here within)))

-- what is kept of numbers that all have entries
record AreKept (plan : PlanOf) (ids : List EntryId) : Type 0 where
  same : map (λ (known : Known). known.id) (filter_map (known_at plan) ids) ≡ ids
  each : AllByRecursion (λ (known : Known). known_at plan known.id ≡ Some known) (filter_map (known_at plan) ids)

id_of_known : (plan : PlanOf) (id : EntryId) (known : Known) → known_at plan id ≡ Some known → known.id ≡ id
id_of_known plan id known there = by (entry_at plan id) there
  where
    by : (o : Option Entry) → option_map (known_of id) o ≡ Some known → known.id ≡ id
    by None there = absurd cc
    by (Some entry) there = (let same : known_of id entry ≡ known = same_Some (known_of id entry) known there in ap (λ (k : Known). k.id) (sym same))

kept_all : (plan : PlanOf) (ids : List EntryId) → AllByRecursion (IsThere plan) ids → AreKept plan ids
kept_all plan [] there = record { same = refl; each = tt }
kept_all plan (id ∷ ids) there = by (known_at plan id) refl there.0.known there.0.there (kept_all plan ids there.1)
  where
    by : (o : Option Known) → known_at plan id ≡ o → (known : Known) → known_at plan id ≡ Some known → AreKept plan ids → AreKept plan (id ∷ ids)
    by o e known here rest =
        let list : filter_map (known_at plan) (id ∷ ids) ≡ known ∷ filter_map (known_at plan) ids = ap (λ o. cons_option o (filter_map (known_at plan) ids)) here in
        let mine : known.id ≡ id = id_of_known plan id known here in
        let all : AllByRecursion (λ (k : Known). known_at plan k.id ≡ Some k) (known ∷ filter_map (known_at plan) ids) = (ap (known_at plan) mine ∙ here, rest.each) in
        record {
          same = ap (map (λ (k : Known). k.id)) list ∙ (ap (λ i. i ∷ map (λ (k : Known). k.id) (filter_map (known_at plan) ids)) mine ∙ ap (λ l. id ∷ l) rest.same);
          each = subst (AllByRecursion (λ (k : Known). known_at plan k.id ≡ Some k)) (sym list) all;
        }

pub keeps-ranked : (plan : PlanOf) (number : ℕ) (ids : List EntryId) → IsRankedAt plan number ids → KeepsEntries plan number (filter_map (known_at plan) ids)
keeps-ranked plan number ids ranking = by (slice_get plan.contexts number) refl ranking
  where
    keep : AreKept plan ids → KeepsEntries plan number (filter_map (known_at plan) ids)
    keep kept = record { ranked = subst (IsRankedAt plan number) (sym kept.same) ranking; each = kept.each }

    by : (o : Option PlanContext) → slice_get plan.contexts number ≡ o → MatchOption o (ids ≡ []) (λ (context : PlanContext). IsRanking number context.entries ids) → KeepsEntries plan number (filter_map (known_at plan) ids)
    by None e none = keep (subst (AreKept plan) (sym none) (kept_all plan [] tt))
    by (Some context) e ranked = keep (kept_all plan ids (all_there plan number context ids e ranked))

-- ---- plain names come first

entry_of_known : (plan : PlanOf) (id : EntryId) (known : Known) → known_at plan id ≡ Some known → (entry : Entry) × (entry_at plan id ≡ Some entry) × (known_of id entry ≡ known)
entry_of_known plan id known there = by (entry_at plan id) refl there
  where
    by : (o : Option Entry) → entry_at plan id ≡ o → option_map (known_of id) o ≡ Some known → (entry : Entry) × (entry_at plan id ≡ Some entry) × (known_of id entry ≡ known)
    by None e there = absurd cc
    by (Some entry) e there = (entry, e, same_Some (known_of id entry) known there)

each_at : {X : Type 0} (P : X → Type 0) (xs : List X) (i : ℕ) (x : X) → AllByRecursion P xs → slice_get xs i ≡ Some x → P x
each_at P [] i x each here = absurd cc
each_at P (y ∷ xs) zero x each here = (let same : y ≡ x = same_Some y x here in subst P same each.0)
each_at P (y ∷ xs) (suc i) x each here = each_at P xs i x each.1 here

map_at : {X Y : Type 0} (f : X → Y) (xs : List X) (i : ℕ) (x : X) → slice_get xs i ≡ Some x → slice_get (map f xs) i ≡ Some (f x)
map_at f [] i x here = absurd cc
map_at f (y ∷ xs) zero x here = ap (option_map f) here
map_at f (y ∷ xs) (suc i) x here = map_at f xs i x here

-- a pattern is never less than a plain name
after_pattern : (m n : Meaning) (i j : ℕ) → ordering_then (name_cmp m n) (nat_cmp i j) ≡ Less → IsPattern m → IsPattern n
unfolding name_cmp
after_pattern (Plain x) n i j less pattern = absurd pattern
after_pattern (Pattern c s) (Pattern d t) i j less pattern = tt
after_pattern (Pattern c s) (Plain y) i j less pattern = absurd (let wrong : Greater ≡ Less = less in cc)

all_here : (number : ℕ) (context : PlanContext) (ids : List EntryId) → IsRanking number context.entries ids → AllByRecursion (λ (id : EntryId). id.context ≡ number) ids
all_here number context ids ranking =
    recursion_from_All (λ (id : EntryId). id.context ≡ number) ids
    (All-permutation (λ (id : EntryId). id.context ≡ number) (ids_of number context.entries) ids ranking.whole
    (All-map (λ (id : EntryId). id.context ≡ number) (id_at number) (range_with_len 0 (length context.entries)) (λ k d below. refl)))

-- an entry is less than a later one
less_at : (plan : PlanOf) (number : ℕ) (known : List Known) → KeepsEntries plan number known → (i j : ℕ) (a b : Known) → i < j → slice_get known i ≡ Some a → slice_get known j ≡ Some b → known_cmp a b ≡ Less
less_at plan number known keeps i j a b before at_i at_j = by (slice_get plan.contexts number) refl keeps.ranked
  where
    ids : List EntryId
    ids = map (λ (k : Known). k.id) known

    ranked_at : (context : PlanContext) → slice_get plan.contexts number ≡ Some context → IsRanking number context.entries ids → (k : ℕ) (one : Known) → slice_get known k ≡ Some one → (entry : Entry) × (ranked_entry context.entries ids k ≡ Some entry) × (known_of one.id entry ≡ one)
    ranked_at context e ranking k one here =
        let id_here = map_at (λ (x : Known). x.id) known k one here in
        let entry = entry_of_known plan one.id one (each_at (λ (x : Known). known_at plan x.id ≡ Some x) known k one keeps.each here) in
        let mine : one.id.context ≡ number = each_at (λ (id : EntryId). id.context ≡ number) ids k one.id (all_here number context ids ranking) id_here in
        let there : slice_get context.entries one.id.entry ≡ Some entry.0 =
        sym (ap (option_and_then (λ (c : PlanContext). slice_get c.entries one.id.entry)) (ap (slice_get plan.contexts) mine ∙ e)) ∙ entry.1 in
        (entry.0, ap (option_and_then (λ (id : EntryId). slice_get context.entries id.entry)) id_here ∙ there, entry.2)

    by : (o : Option PlanContext) → slice_get plan.contexts number ≡ o → MatchOption o (ids ≡ []) (λ (context : PlanContext). IsRanking number context.entries ids) → known_cmp a b ≡ Less
    by None e none =
        let id_here = map_at (λ (x : Known). x.id) known i a at_i in
        let nothing : slice_get ids i ≡ None = ap (λ (l : List EntryId). slice_get l i) none in
        absurd cc
    by (Some context) e ranking =
        let x = ranked_at context e ranking i a at_i in
        let y = ranked_at context e ranking j b at_j in
        let less = ranking.rising i j x.0 y.0 before x.1 y.1 in
        ap (λ k. known_cmp k b) (sym x.2) ∙ (ap (known_cmp (known_of a.id x.0)) (sym y.2) ∙ less)

pub in_order : (plan : PlanOf) (number : ℕ) (known : List Known) → KeepsEntries plan number known → AreInOrder known
in_order plan number known keeps = sorted-places known_cmp known (less_at plan number known keeps)

pub plain_first : (plan : PlanOf) (number : ℕ) (known : List Known) → KeepsEntries plan number known → ArePlainFirst known
plain_first plan number known keeps i j a b before at_i at_j pattern =
    after_pattern a.name b.name a.priority b.priority (less_at plan number known keeps i j a b before at_i at_j) pattern

-- ---- what is found

-- the test of an entry is the test of what is kept of it
abbrev pub AreSame : (Entry → Bool) → (Known → Bool) → Type 0
AreSame test kept = (id : EntryId) (entry : Entry) → test entry ≡ kept (known_of id entry)

passes-known : (plan : PlanOf) (test : Entry → Bool) (kept : Known → Bool) → AreSame test kept → (known : Known) → known_at plan known.id ≡ Some known → passes plan test known.id ≡ kept known
passes-known plan test kept same known there = by (entry_at plan known.id) there
  where
    by : (o : Option Entry) → option_map (known_of known.id) o ≡ Some known → option_map_or test o false ≡ kept known
    by None there = absurd cc
    by (Some entry) there = same known.id entry ∙ ap kept (same_Some (known_of known.id entry) known there)

find-known : (plan : PlanOf) (test : Entry → Bool) (kept : Known → Bool) → AreSame test kept → (known : List Known) → AllByRecursion (λ (k : Known). known_at plan k.id ≡ Some k) known → find (passes plan test) (map (λ (k : Known). k.id) known) ≡ option_map (λ (k : Known). k.id) (find kept known)
find-known plan test kept same [] each = refl
find-known plan test kept same (one ∷ known) each = by (passes plan test one.id) (kept one) (passes-known plan test kept same one each.0) (find-known plan test kept same known each.1)
  where
    by : (s t : Bool) → s ≡ t → find (passes plan test) (map (λ (k : Known). k.id) known) ≡ option_map (λ (k : Known). k.id) (find kept known) → cond s (Some one.id) (find (passes plan test) (map (λ (k : Known). k.id) known)) ≡ option_map (λ (k : Known). k.id) (cond t (Some one) (find kept known))
    by true true e rest = refl
    by true false e rest = absurd cc
    by false true e rest = absurd cc
    by false false e rest = rest

option_map-or : {X Y : Type 0} (f : X → Y) (a b : Option X) → option_map f (option_or a b) ≡ option_or (option_map f a) (option_map f b)
option_map-or f None b = refl
option_map-or f (Some x) b = refl

past_of : {X : Type 0} (xs : List X) (i : ℕ) → slice_get xs i ≡ None → length xs ≤ i
past_of [] i e = omega arith
past_of (x ∷ xs) zero e = absurd cc
past_of (x ∷ xs) (suc i) e = (let rest = past_of xs i e in omega (arith, rest))

-- a context that does not exist has no entries
none_ranked : (plan : PlanOf) (number : ℕ) → slice_get plan.contexts number ≡ None → IsRankedAt plan number []
none_ranked plan number none = subst P (sym none) nothing
  where
    ids : List EntryId
    ids = []

    P : Option PlanContext → Type 0
    P o = MatchOption o (ids ≡ []) (λ (context : PlanContext). IsRanking number context.entries ids)

    nothing : ids ≡ []
    nothing = refl

-- what is kept of a context, or nothing if there is none
keeps_at : (plan : PlanOf) (kept : List KeptContext) → Keeps plan kept → (number : ℕ) → KeepsEntries plan number (kept_at kept number)
keeps_at plan kept keeps number = by (slice_get kept number) refl
  where
    by : (o : Option KeptContext) → slice_get kept number ≡ o → KeepsEntries plan number (option_map_or (λ (context : KeptContext). context.entries) o [])
    by None e =
        let count = keeps.count in
        let past = past_of kept number e in
        let none : slice_get plan.contexts number ≡ None = slice_get_past plan.contexts number (omega (arith, count, past)) in
        record {
          ranked = none_ranked plan number none;
          each = tt;
        }
    by (Some context) e = keeps.each number context e

pub found-first : (plan : PlanOf) (kept : List KeptContext) → Keeps plan kept → (test : Entry → Bool) (known_test : Known → Bool) → AreSame test known_test → (order : List ℕ) → found_by plan test order ≡ option_map (λ (k : Known). k.id) (found_first kept known_test order)
found-first plan kept keeps test known_test same [] = refl
found-first plan kept keeps test known_test same (number ∷ order) =
    let here = keeps_at plan kept keeps number in
    ap (λ o. option_or o (found_by plan test order))
    (sym (first_is_least plan test number (map (λ (k : Known). k.id) (kept_at kept number)) here.ranked) ∙ find-known plan test known_test same (kept_at kept number) here.each)
    ∙ (ap (option_or (option_map (λ (k : Known). k.id) (find known_test (kept_at kept number)))) (found-first plan kept keeps test known_test same order)
    ∙ sym (option_map-or (λ (k : Known). k.id) (find known_test (kept_at kept number)) (found_first kept known_test order)))

find-each : (P : Known → Type 0) (test : Known → Bool) (known : List Known) → AllByRecursion P known → (one : Known) → find test known ≡ Some one → P one
find-each P test [] each one e = absurd cc
find-each P test (k ∷ known) each one e = by (test k) e (find-each P test known each.1 one)
  where
    by : (b : Bool) → cond b (Some k) (find test known) ≡ Some one → (find test known ≡ Some one → P one) → P one
    by true e rest = (let same : k ≡ one = same_Some k one e in subst P same each.0)
    by false e rest = rest e

-- what is found is what is kept of an entry of the dialplan
pub found-there : (plan : PlanOf) (kept : List KeptContext) → Keeps plan kept → (test : Known → Bool) (order : List ℕ) (one : Known) → found_first kept test order ≡ Some one → known_at plan one.id ≡ Some one
found-there plan kept keeps test [] one e = absurd cc
found-there plan kept keeps test (number ∷ order) one e = by (find test (kept_at kept number)) refl e (found-there plan kept keeps test order one)
  where
    by : (o : Option Known) → find test (kept_at kept number) ≡ o → option_or o (found_first kept test order) ≡ Some one → (found_first kept test order ≡ Some one → known_at plan one.id ≡ Some one) → known_at plan one.id ≡ Some one
    by None f e rest = rest e
    by (Some k) f e rest =
        let here = keeps_at plan kept keeps number in
        find-each (λ (x : Known). known_at plan x.id ≡ Some x) test (kept_at kept number) here.each one (f ∙ e)

-- the priority of what is found
pub found-priority : (plan : PlanOf) (kept : List KeptContext) → Keeps plan kept → (test : Known → Bool) (order : List ℕ) → option_and_then (priority_at plan) (option_map (λ (k : Known). k.id) (found_first kept test order)) ≡ option_map (λ (k : Known). k.priority) (found_first kept test order)
found-priority plan kept keeps test order = by (found_first kept test order) refl
  where
    priority_of : (one : Known) (o : Option Entry) → option_map (known_of one.id) o ≡ Some one → option_map (λ (entry : Entry). entry.priority) o ≡ Some one.priority
    priority_of one None e = absurd cc
    priority_of one (Some entry) e = ap (option_map (λ (k : Known). k.priority)) e

    by : (o : Option Known) → found_first kept test order ≡ o → option_and_then (priority_at plan) (option_map (λ (k : Known). k.id) o) ≡ option_map (λ (k : Known). k.priority) o
    by None e = refl
    by (Some one) e = priority_of one (entry_at plan one.id) (found-there plan kept keeps test order one e)

-- the pattern that is found has at most as many classes as were counted
pub found-pattern : (plan : PlanOf) (kept : List KeptContext) → Keeps plan kept → (test : Known → Bool) (order : List ℕ) (count : ℕ) → MatchOption (found_first kept test order) (Unit {0}) (λ known. class_count known.name ≤ count) → FindsPattern plan (option_map (λ (k : Known). k.id) (found_first kept test order)) count
found-pattern plan kept keeps test order count few id entry found there = by (found_first kept test order) refl few found
  where
    by : (o : Option Known) → found_first kept test order ≡ o → MatchOption o (Unit {0}) (λ (known : Known). class_count known.name ≤ count) → option_map (λ (k : Known). k.id) o ≡ Some id → class_count entry.name ≤ count
    by None e few found = absurd cc
    by (Some one) e few found =
        let mine : one.id ≡ id = same_Some one.id id found in
        let known = entry_of_known plan one.id one (found-there plan kept keeps test order one e) in
        let same : known.0 ≡ entry = same_Some known.0 entry (sym known.1 ∙ (ap (entry_at plan) mine ∙ there)) in
        let name : one.name ≡ entry.name = ap (λ (k : Known). k.name) (sym known.2) ∙ ap (λ (x : Entry). x.name) same in
        subst (λ m. class_count m ≤ count) name few

-- ---- the contexts of an order

first-step : (kept : List KeptContext) (test : Known → Bool) (order : List ℕ) (k number : ℕ) → slice_get order k ≡ Some number → found_first kept test (drop k order) ≡ option_or (find test (kept_at kept number)) (found_first kept test (drop (k + 1) order))
first-step kept test order k number here = ap (found_first kept test) (drop-get order k number here)

some-first : {X : Type 0} (f : Known → X) (a b : Option Known) → is_some (option_map f a) ≡ true → option_or a b ≡ a
some-first f None b e = absurd cc
some-first f (Some x) b e = refl

none-first : {X : Type 0} (f : Known → X) (a b : Option Known) → is_some (option_map f a) ≡ false → option_or a b ≡ b
none-first f None b e = refl
none-first f (Some x) b e = absurd cc

-- the first context with a hit has the first hit of all
pub first-found : {X : Type 0} (f : Known → X) (kept : List KeptContext) (test : Known → Bool) (order : List ℕ) (k number : ℕ) (r : Option X) → slice_get order k ≡ Some number → r ≡ option_map f (find test (kept_at kept number)) → is_some r ≡ true → found_first kept test (drop k order) ≡ found_first kept test order → find test (kept_at kept number) ≡ found_first kept test order
first-found f kept test order k number r here is some same =
    sym (some-first f (find test (kept_at kept number)) (found_first kept test (drop (k + 1) order)) (ap is_some (sym is) ∙ some))
    ∙ (sym (first-step kept test order k number here) ∙ same)

pub first-past : {X : Type 0} (f : Known → X) (kept : List KeptContext) (test : Known → Bool) (order : List ℕ) (k number : ℕ) (r : Option X) → slice_get order k ≡ Some number → r ≡ option_map f (find test (kept_at kept number)) → is_some r ≡ false → found_first kept test (drop k order) ≡ found_first kept test order → found_first kept test (drop (k + 1) order) ≡ found_first kept test order
first-past f kept test order k number r here is none same =
    sym (none-first f (find test (kept_at kept number)) (found_first kept test (drop (k + 1) order)) (ap is_some (sym is) ∙ none))
    ∙ (sym (first-step kept test order k number here) ∙ same)

-- the sum over the first contexts, and one more
pub sum-more : (f : ℕ → ℕ) (xs : List ℕ) (k x : ℕ) → slice_get xs k ≡ Some x → sum_by f (take (k + 1) xs) ≡ sum_by f (take k xs) + f x
sum-more f xs k x here =
    let whole = ap (sum_by f) (ap (λ n. take n xs) (add-one k) ∙ take-get xs k x here) in
    let parts = sum_by-append f (take k xs) (x ∷ []) in
    omega (arith, whole, parts)

pub sum-within : (f : ℕ → ℕ) (xs : List ℕ) (k : ℕ) → sum_by f (take k xs) ≤ sum_by f xs
sum-within f xs k = (let parts = sum_by-take-drop f xs k in omega (arith, parts))

-- ---- the contexts of a dialplan

-- what is kept of the first contexts
pub record KeepsUpTo (count : ℕ) (plan : PlanOf) (kept : List KeptContext) : Type 0 where
  pub counted : length kept ≡ count
  pub each : (number : ℕ) (context : KeptContext) → slice_get kept number ≡ Some context → KeepsEntries plan number context.entries

pub keeps-start : (plan : PlanOf) → KeepsUpTo 0 plan []
keeps-start plan = record { counted = refl; each = λ number context here. (let nothing : None ≡ Some context = here in absurd cc) }

get-last : {X : Type 0} (xs : List X) (x y : X) (k : ℕ) → slice_get (xs ++ x ∷ []) k ≡ Some y → (slice_get xs k ≡ Some y) ⊎ ((k ≡ length xs) × (x ≡ y))
get-last [] x y zero e = inr (refl, same_Some x y e)
get-last [] x y (suc k) e = inl e
get-last (z ∷ xs) x y zero e = inl e
get-last (z ∷ xs) x y (suc k) e = elim (get-last xs x y k e) [ inl before ↦ inl before | inr last ↦ inr (ap suc last.0, last.1) ]

pub keeps-push : (number : ℕ) (plan : PlanOf) (kept : List KeptContext) (context : KeptContext) → KeepsUpTo number plan kept → KeepsEntries plan number context.entries → KeepsUpTo (number + 1) plan (kept ++ context ∷ [])
keeps-push number plan kept context keeps one = record {
  counted = (let parts = length-append kept (context ∷ []) in let count = keeps.counted in omega (arith, parts, count));
  each = λ k other here. elim (get-last kept context other k here) [
    | inl before ↦ keeps.each k other before
    | inr last ↦ subst (λ n. KeepsEntries plan n other.entries) (sym (last.0 ∙ keeps.counted)) (subst (λ (c : KeptContext). KeepsEntries plan number c.entries) last.1 one)
  ];
}

pub keeps-all : (number : ℕ) (plan : PlanOf) (kept : List KeptContext) → number ≡ length plan.contexts → KeepsUpTo number plan kept → Keeps plan kept
keeps-all number plan kept all keeps = record { count = keeps.counted ∙ all; each = keeps.each }
