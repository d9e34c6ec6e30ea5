-- The order in which the entries of a context are tried.
use Rattle.std.proofs.Common.{◌≡◌, ℕ, zero, suc, ◌+◌, ◌<◌, Bool, true, false, true≢false, ◌&&◌, List, [], ◌∷◌, ◌++◌, length, length-take-le, map, take, get_or, slice_get, Some, Bor, refl, sym, ap, ◌∙◌, subst, ◌⊎◌, inl, inr, ⊎_elim, arith, nat_cmp, is_eq, is_lt, Ordering, Less, Equal, Greater, IsPermutation, IsSortedBy}
use Rattle.std.specs.Cmp.{IsTotalOrder, IsStrictWeakOrder, unsigned_ties}
use Rattle.std.specs.Cmp.Lexicographic.{nat_list_eq_equiv, options_total}
use Rattle.std.specs.Fn.{Called, Mut, ComparesAs}
use Rattle.std.specs.List.{All, IsDistinct, range_with_len}
use Rattle.std.specs.Option.{option_cmp}
use Rattle.std.specs.Ordering.{ordering_reverse}
use Rattle.std.proofs.lemmas.Bool.{cases_order}
use Rattle.std.proofs.lemmas.Cmp.{on_total, then_total, nat_cmp_total, nat_eq_equiv}
use Rattle.std.proofs.lemmas.Fn.{always_returns_same}
use Rattle.std.proofs.lemmas.List.{length_push, length-map, get_or-map, take_more}
use Rattle.std.proofs.lemmas.List.FromFn.{fill_by_all}
use Rattle.std.proofs.lemmas.List.Elements.{All-push}
use Rattle.std.proofs.lemmas.List.Sorted.{IsPermutation-map, ranks_by, sorted_far}
use Rattle.std.proofs.lemmas.Map.Keys.{apart_from_distinct, IsDistinct-IsPermutation}
use Rattle.std.proofs.lemmas.Option.{none-some, same_Some, slice_get_within, get_or_from_slice_get}
use Rattle.std.proofs.lemmas.Simd.{map-map}
use Rattle.dp_conf.specs.Words.{same_text}
use Rattle.dp_pattern.specs.Name.{Meaning}
use Rattle.dp_pattern.specs.Order.{name_cmp}
use Rattle.dp_pattern.specs.Spelling.{spelling}
use Rattle.dp_pattern.proofs.OrderLemmas.{name_cmp_total, orders_names, then_is_Equal}
use Rattle.dp_plan.specs.Contexts.{PlanContext, AreNamed}
use Rattle.dp_plan.specs.Ranking.{entry_cmp, shares_place, AreApart, ids_of, id_cmp, ranked_entry, IsRanking, AreRanked}
use Rattle.dp_plan.specs.declared.entry.Entry.{Entry}
use Rattle.dp_plan.specs.declared.entry.EntryId.{EntryId}

-- ---- the order of entries

-- the order of entries is total
pub entry_cmp_total : IsTotalOrder entry_cmp
entry_cmp_total = then_total (on_total (λ (e : Entry). e.name) name_cmp_total) (on_total (λ (e : Entry). e.priority) nat_cmp_total)

-- entries that are equal in the order have the same name and priority
tied-shares_place : (a b : Entry) → entry_cmp a b ≡ Equal → shares_place a b ≡ true
tied-shares_place a b e =
    let parts = then_is_Equal (name_cmp a.name b.name) (nat_cmp a.priority b.priority) e in
    let names = subst (λ (n : Meaning). same_text (spelling a.name) (spelling n) ≡ true) ((orders_names.same a.name b.name).0 parts.0) (nat_list_eq_equiv.refl (spelling a.name)) in
    let priorities = unsigned_ties a.priority b.priority ∙ ap is_eq parts.1 in
    λ i. names i && priorities i

-- sharing a place does not depend on which of the two entries is named first
shares_place-symm : (a b : Entry) → shares_place a b ≡ shares_place b a
shares_place-symm a b =
    let names = nat_list_eq_equiv.symm (spelling a.name) (spelling b.name) in
    let priorities = nat_eq_equiv.symm a.priority b.priority in
    λ i. names i && priorities i

-- of two entries that are apart, the one that is not greater is less
less_from_apart : (a b : Entry) (o : Ordering) → entry_cmp a b ≡ o → shares_place a b ≡ false → is_lt (entry_cmp b a) ≡ false → o ≡ Less
less_from_apart a b Less e apart back = refl
less_from_apart a b Equal e apart back = absurd (true≢false (sym (tied-shares_place a b e) ∙ apart))
less_from_apart a b Greater e apart back = absurd (true≢false (sym (ap is_lt (entry_cmp_total.antisymm b a ∙ ap ordering_reverse e)) ∙ back))

-- of entries that are apart, two that are equal in the order are the same
pub one_place : (entries : List Entry) → AreApart entries → (i j : ℕ) (a b : Entry) → slice_get entries i ≡ Some a → slice_get entries j ≡ Some b → entry_cmp a b ≡ Equal → i ≡ j
one_place entries apart i j a b at_i at_j tied =
    elim (cases_order i j) [
      | inl same ↦ same
      | inr (inl below) ↦ absurd (differ i j a b at_i at_j below tied)
      | inr (inr above) ↦ absurd (differ j i b a at_j at_i above (entry_cmp_total.antisymm b a ∙ ap ordering_reverse tied))
    ]
  where
    differ : (i j : ℕ) (a b : Entry) → slice_get entries i ≡ Some a → slice_get entries j ≡ Some b → i < j → entry_cmp a b ≡ Equal → ⊥
    differ i j a b at_i at_j below tied =
        let two : shares_place a b ≡ false = (λ k. shares_place (sym (get_or_from_slice_get entries i a a at_i) k) (sym (get_or_from_slice_get entries j b a at_j) k)) ∙ apart_from_distinct shares_place entries i j a apart below (slice_get_within entries j b at_j) in
        true≢false (sym (tied-shares_place a b tied) ∙ two)

-- ---- the ranking of a context

-- an entry is less than another, given their numbers
abbrev pub is_before : List Entry → EntryId → EntryId → Bool
is_before entries x y = is_lt (id_cmp entries x y)

-- the order of the entries, given by their numbers, is total
id_cmp_total : (entries : List Entry) → IsStrictWeakOrder (is_before entries)
id_cmp_total entries = ranks_by (options_total entry_cmp_total) (λ (id : EntryId). slice_get entries id.entry)

-- a closure that compares the entries sorts their numbers by the order of the entries
pub IsSortedBy-entries : {F : Type 0} {g : Mut F (Bor EntryId × (Bor EntryId × Unit {0})) Ordering} {f : F} (entries : List Entry) (ids : List EntryId)
    → ((lt : EntryId → EntryId → Bool) → IsStrictWeakOrder lt → ComparesAs g lt f → IsSortedBy lt ids)
    → ((a : Bor EntryId × (Bor EntryId × Unit {0})) (r : Ordering) (f' : F) → Called g f a r f' → (r ≡ id_cmp entries a.0.now a.1.0.now) × (f' ≡ f)) → IsSortedBy (is_before entries) ids
IsSortedBy-entries {g = g} {f = f} entries ids up h =
    up (is_before entries) (id_cmp_total entries)
    (always_returns_same g (λ a r. is_lt r ≡ is_before entries a.0.now a.1.0.now) f (λ a r f' k. (ap is_lt (h a r f' k).0, (h a r f' k).1)))

-- the entry with a number
abbrev entry_of : List Entry → Entry → EntryId → Entry
entry_of entries d id = get_or entries id.entry d

-- the entries with all numbers are the entries
entries_of_all : (number : ℕ) (entries : List Entry) (d : Entry) → map (entry_of entries d) (ids_of number entries) ≡ entries
entries_of_all number entries d =
    map-map (entry_of entries d) (λ (k : ℕ). record { context = number; entry = k }) (range_with_len 0 (length entries))
    ∙ sym (fill_by_all (λ (k : ℕ). get_or entries k d) entries (length entries) d refl (λ k lt. refl))

-- the number at a place whose entry is known
id_at : (entries : List Entry) (ids : List EntryId) (place : ℕ) (a : Entry) → ranked_entry entries ids place ≡ Some a → (id : EntryId) × (slice_get ids place ≡ Some id) × (slice_get entries id.entry ≡ Some a)
id_at entries [] place a e = absurd (none-some a e)
id_at entries (id ∷ ids) zero a e = (id, refl, e)
id_at entries (id ∷ ids) (suc place) a e = id_at entries ids place a e

-- when sorted, the numbers of entries that are apart are their ranking
pub IsRanking-sorted : (number : ℕ) (entries : List Entry) (numbered ids : List EntryId)
    → numbered ≡ ids_of number entries → IsPermutation numbered ids → IsSortedBy (is_before entries) ids → AreApart entries → IsRanking number entries ids
IsRanking-sorted number entries numbered ids all shuffled up apart = record {
  whole = subst (λ (l : List EntryId). IsPermutation l ids) all shuffled;
  rising = λ i j a b lt ea eb.
      let x = id_at entries ids i a ea in
      let y = id_at entries ids j b eb in
      let within : j < length ids = slice_get_within ids j y.0 y.1 in
      let now : EntryId → Entry = entry_of entries a in
      let moved : IsPermutation (ids_of number entries) ids = subst (λ (l : List EntryId). IsPermutation l ids) all shuffled in
      let ordered : IsPermutation entries (map now ids) = subst (λ (l : List Entry). IsPermutation l (map now ids)) (entries_of_all number entries a) (IsPermutation-map now (ids_of number entries) ids moved) in
      let distinct : IsDistinct shares_place (map now ids) = IsDistinct-IsPermutation shares_place shares_place-symm entries (map now ids) ordered apart in
      let at_i : get_or ids i x.0 ≡ x.0 = get_or_from_slice_get ids i x.0 x.0 x.1 in
      let at_j : get_or ids j x.0 ≡ y.0 = get_or_from_slice_get ids j y.0 x.0 y.1 in
      let far : is_before entries (get_or ids j x.0) (get_or ids i x.0) ≡ false = sorted_far (is_before entries) (id_cmp_total entries) ids up i j x.0 (omega arith) within in
      let of_both : id_cmp entries (get_or ids j x.0) (get_or ids i x.0) ≡ entry_cmp b a = (λ k. id_cmp entries (at_j k) (at_i k)) ∙ (λ k. option_cmp entry_cmp (y.2 k) (x.2 k)) in
      let back : is_lt (entry_cmp b a) ≡ false = sym (ap is_lt of_both) ∙ far in
      let is_a : get_or (map now ids) i a ≡ a = get_or-map now ids i x.0 a (omega arith) ∙ (ap now at_i ∙ get_or_from_slice_get entries x.0.entry a a x.2) in
      let is_b : get_or (map now ids) j a ≡ b = get_or-map now ids j x.0 a within ∙ (ap now at_j ∙ get_or_from_slice_get entries y.0.entry b a y.2) in
      let long : j < length (map now ids) = subst (λ (n : ℕ). j < n) (sym (length-map ids now)) within in
      let two : shares_place a b ≡ false = (λ k. shares_place (sym is_a k) (sym is_b k)) ∙ apart_from_distinct shares_place (map now ids) i j a distinct lt long in
      less_from_apart a b (entry_cmp a b) refl two back;
}

-- ---- the rankings of all contexts

-- an element of a list with one more is an element of the list or the last one
slice_get_push_cases : {X : Type 0} (xs : List X) (x : X) (i : ℕ) (y : X) → slice_get (xs ++ x ∷ []) i ≡ Some y → (slice_get xs i ≡ Some y) ⊎ ((i ≡ length xs) × (x ≡ y))
slice_get_push_cases [] x zero y e = inr (refl, same_Some x y e)
slice_get_push_cases [] x (suc i) y e = absurd (none-some y e)
slice_get_push_cases (z ∷ xs) x zero y e = inl e
slice_get_push_cases (z ∷ xs) x (suc i) y e = ⊎_elim inl (λ p. inr (ap suc p.0, p.1)) (slice_get_push_cases xs x i y e)

-- at each place of the contexts and the rankings, with one more of each, the ranking is that of the context
ranked_by_cases : (contexts : List PlanContext) (rankings : List (List EntryId)) (context : PlanContext) (ids : List EntryId) → AreRanked contexts rankings → IsRanking (length contexts) context.entries ids
    → (number : ℕ) (c : PlanContext) (r : List EntryId) → (slice_get contexts number ≡ Some c) ⊎ ((number ≡ length contexts) × (context ≡ c)) → (slice_get rankings number ≡ Some r) ⊎ ((number ≡ length rankings) × (ids ≡ r)) → IsRanking number c.entries r
ranked_by_cases contexts rankings context ids before last number c r (inl hc) (inl hr) = before.each number c r hc hr
ranked_by_cases contexts rankings context ids before last number c r (inl hc) (inr hr) = absurd (omega (arith, before.count, slice_get_within contexts number c hc, hr.0))
ranked_by_cases contexts rankings context ids before last number c r (inr hc) (inl hr) = absurd (omega (arith, before.count, slice_get_within rankings number r hr, hc.0))
ranked_by_cases contexts rankings context ids before last number c r (inr hc) (inr hr) = rw (hc.0, ← hc.1, ← hr.1) last

-- with the ranking of one more context, the contexts including it are ranked
AreRanked-push : (contexts : List PlanContext) (rankings : List (List EntryId)) (context : PlanContext) (ids : List EntryId) → AreRanked contexts rankings → IsRanking (length contexts) context.entries ids → AreRanked (contexts ++ context ∷ []) (rankings ++ ids ∷ [])
AreRanked-push contexts rankings context ids before last = record {
  count = length_push rankings ids ∙ (ap (λ n. n + 1) before.count ∙ sym (length_push contexts context));
  each = λ number c r ec er. ranked_by_cases contexts rankings context ids before last number c r (slice_get_push_cases contexts context number c ec) (slice_get_push_cases rankings ids number r er);
}

-- with the ranking of the context at the place, one more context is ranked
pub AreRanked-more : (contexts : List PlanContext) (rankings : List (List EntryId)) (n : ℕ) (context : PlanContext) (ids : List EntryId)
    → AreRanked (take n contexts) rankings → n < length contexts → context ≡ get_or contexts n context → IsRanking n context.entries ids → AreRanked (take (n + 1) contexts) (rankings ++ ids ∷ [])
AreRanked-more contexts rankings n context ids before within here last =
    let size : n ≡ length (take n contexts) = sym (length-take-le n contexts (omega arith)) in
    let more : take n contexts ++ context ∷ [] ≡ take (n + 1) contexts = ap (λ (c : PlanContext). take n contexts ++ c ∷ []) here ∙ sym (take_more contexts n context within) in
    subst (λ (l : List PlanContext). AreRanked l (rankings ++ ids ∷ [])) more (AreRanked-push (take n contexts) rankings context ids before (subst (λ (m : ℕ). IsRanking m context.entries ids) size last))

-- with one more context whose entries are named, the entries of all contexts up to it are named
pub AreAllNamed-more : (contexts : List PlanContext) (n : ℕ) (context : PlanContext) → All (λ (c : PlanContext). AreNamed c.entries) (take n contexts) → n < length contexts → context ≡ get_or contexts n context → AreNamed context.entries → All (λ (c : PlanContext). AreNamed c.entries) (take (n + 1) contexts)
AreAllNamed-more contexts n context before within here named =
    let P : PlanContext → Type 0 = λ c. AreNamed c.entries in
    let more : take n contexts ++ context ∷ [] ≡ take (n + 1) contexts = ap (λ (c : PlanContext). take n contexts ++ c ∷ []) here ∙ sym (take_more contexts n context within) in
    subst (All P) more (All-push P (take n contexts) context before named)
