-- The order of a context's entries in the definition is its ranking, and its only one.
use Rattle.std.proofs.Common.{◌≡◌, ℕ, zero, suc, ◌<◌, Bool, true, false, cond, List, [], ◌∷◌, length, get_or, add-one, Option, Some, None, MatchOption, arith, refl, sym, ap, ◌∙◌, subst, is_lt, Ordering, Less, Equal, Greater, IsPermutation, IsSortedBy}
use Rattle.std.specs.Prelude.{slice_get, All, Contains}
use Rattle.std.specs.Option.{option_map_or}
use Rattle.std.specs.Ordering.{ordering_reverse}
use Rattle.std.specs.Cmp.Lexicographic.{options_total}
use Rattle.std.proofs.lemmas.List.FromFn.{length-map-range_with_len, get_or-map-range_with_len}
use Rattle.std.proofs.lemmas.List.Sorted.{All-permutation, Contains-permutation, IsPermutation-cons, IsPermutation-middle, IsPermutation-refl, IsPermutation-sym, IsPermutation-trans}
use Rattle.std.proofs.lemmas.Option.{get_or_from_slice_get, same_Some, slice_get_read, slice_get_within}
use Rattle.dp_plan.specs.Contexts.{PlanContext}
use Rattle.dp_plan.specs.Lookup.{IsRankedAt}
use Rattle.dp_plan.specs.Plan.{PlanOf}
use Rattle.dp_plan.specs.Ranking.{entry_cmp, id_cmp, ids_of, ranked_entry, AreApart, IsRanking}
use Rattle.dp_plan.specs.declared.entry.Entry.{Entry}
use Rattle.dp_plan.specs.declared.entry.EntryId.{EntryId}
use Rattle.dp_plan.proofs.RankingLemmas.{entry_cmp_total, is_before, IsRanking-sorted}
use Rattle.dp_audit.specs.Candidates.{insert_in_order, in_order, ranked_of}

Less-not_back : (o : Ordering) → o ≡ Less → ordering_reverse o ≡ Less → ⊥
Less-not_back Less e back = absurd cc
Less-not_back Equal e back = absurd cc
Less-not_back Greater e back = absurd cc

less-false : (o p : Ordering) → o ≡ ordering_reverse p → is_lt p ≡ true → is_lt o ≡ false
less-false o Less e lt = ap is_lt e
less-false o Equal e lt = absurd cc
less-false o Greater e lt = absurd cc

at : {X : Type 0} (xs : List X) (k : ℕ) → k < length xs → (x : X) × (slice_get xs k ≡ Some x)
at [] k within = absurd (omega (arith, within))
at (x ∷ xs) zero within = (x, refl)
at (x ∷ xs) (suc k) within = at xs k (omega (arith, within))

-- what holds of all holds of the one at a place
pub all_at : {X : Type 0} (P : X → Type 0) (xs : List X) (k : ℕ) (x : X) → All P xs → slice_get xs k ≡ Some x → P x
all_at P xs k x all here = subst P (get_or_from_slice_get xs k x x here) (all k x (slice_get_within xs k x here))

module _ (entries : List Entry) where
  -- ---- the order in the definition is sorted

  abbrev NotBefore : EntryId → List EntryId → Type 0
  NotBefore x [] = Unit {0}
  NotBefore x (y ∷ ids) = is_before entries y x ≡ false

  -- none comes before the one that precedes it
  abbrev Steps : List EntryId → Type 0
  Steps [] = Unit {0}
  Steps (x ∷ ids) = NotBefore x ids × Steps ids

  not_back : (x y : EntryId) → is_before entries x y ≡ true → is_before entries y x ≡ false
  not_back x y lt = less-false (id_cmp entries y x) (id_cmp entries x y) ((options_total entry_cmp_total).antisymm (slice_get entries y.entry) (slice_get entries x.entry)) lt

  NotBefore-insert_in_order : (x id : EntryId) (ids : List EntryId) → is_before entries id x ≡ false → NotBefore x ids → NotBefore x (insert_in_order entries id ids)
  NotBefore-insert_in_order x id [] here rest = here
  NotBefore-insert_in_order x id (y ∷ ids) here rest = by (is_before entries id y) where
    by : (t : Bool) → NotBefore x (cond t (id ∷ y ∷ ids) (y ∷ insert_in_order entries id ids))
    by true = here
    by false = rest

  Steps-insert_in_order : (id : EntryId) (ids : List EntryId) → Steps ids → Steps (insert_in_order entries id ids)
  Steps-insert_in_order id [] steps = (tt, tt)
  Steps-insert_in_order id (x ∷ ids) steps = by (is_before entries id x) refl (Steps-insert_in_order id ids steps.1) where
    by : (t : Bool) → is_before entries id x ≡ t → Steps (insert_in_order entries id ids) → Steps (cond t (id ∷ x ∷ ids) (x ∷ insert_in_order entries id ids))
    by true e rest = (not_back id x e, steps)
    by false e rest = (NotBefore-insert_in_order x id ids e steps.0, rest)

  Steps-in_order : (ids : List EntryId) → Steps (in_order entries ids)
  Steps-in_order [] = tt
  Steps-in_order (id ∷ ids) = Steps-insert_in_order id (in_order entries ids) (Steps-in_order ids)

  sorted_next : (ids : List EntryId) → Steps ids → (k : ℕ) (d : EntryId) → suc k < length ids → is_before entries (get_or ids (suc k) d) (get_or ids k d) ≡ false
  sorted_next [] steps k d within = absurd (omega (arith, within))
  sorted_next (x ∷ []) steps k d within = absurd (omega (arith, within))
  sorted_next (x ∷ y ∷ ids) steps zero d within = steps.0
  sorted_next (x ∷ y ∷ ids) steps (suc k) d within = sorted_next (y ∷ ids) steps.1 k d (omega (arith, within))

  sorted : (ids : List EntryId) → IsSortedBy (is_before entries) (in_order entries ids)
  sorted ids k d low within =
      ap (λ n. is_before entries (get_or (in_order entries ids) n d) (get_or (in_order entries ids) k d)) (add-one k)
      ∙ sorted_next (in_order entries ids) (Steps-in_order ids) k d (omega (arith, within))

  -- ---- it has all entries

  whole-insert_in_order : (id : EntryId) (ids : List EntryId) → IsPermutation (id ∷ ids) (insert_in_order entries id ids)
  whole-insert_in_order id [] = IsPermutation-refl (id ∷ [])
  whole-insert_in_order id (x ∷ ids) = by (is_before entries id x) (whole-insert_in_order id ids) where
    by : (t : Bool) → IsPermutation (id ∷ ids) (insert_in_order entries id ids) → IsPermutation (id ∷ x ∷ ids) (cond t (id ∷ x ∷ ids) (x ∷ insert_in_order entries id ids))
    by true rest = IsPermutation-refl (id ∷ x ∷ ids)
    by false rest = IsPermutation-trans (id ∷ x ∷ ids) (x ∷ id ∷ ids) (x ∷ insert_in_order entries id ids) (IsPermutation-middle (id ∷ []) x ids) (IsPermutation-cons x (id ∷ ids) (insert_in_order entries id ids) rest)

  whole-in_order : (ids : List EntryId) → IsPermutation ids (in_order entries ids)
  whole-in_order [] = IsPermutation-refl []
  whole-in_order (id ∷ ids) =
      IsPermutation-trans (id ∷ ids) (id ∷ in_order entries ids) (insert_in_order entries id (in_order entries ids)) (IsPermutation-cons id ids (in_order entries ids) (whole-in_order ids)) (whole-insert_in_order id (in_order entries ids))

  -- the order in the definition is a ranking, if the entries are apart
  ranking-in_order : (number : ℕ) → AreApart entries → IsRanking number entries (in_order entries (ids_of number entries))
  ranking-in_order number apart = IsRanking-sorted number entries (ids_of number entries) (in_order entries (ids_of number entries)) refl (whole-in_order (ids_of number entries)) (sorted (ids_of number entries)) apart

  -- ---- there is only one ranking

  abbrev Rises : List EntryId → Type 0
  Rises ids = (i j : ℕ) (a b : Entry) → i < j → ranked_entry entries ids i ≡ Some a → ranked_entry entries ids j ≡ Some b → entry_cmp a b ≡ Less

  abbrev IsIn : List EntryId → EntryId → Type 0
  IsIn ids x = (k : ℕ) × (slice_get ids k ≡ Some x)

  abbrev Known : EntryId → Type 0
  Known x = (a : Entry) × (slice_get entries x.entry ≡ Some a)

  -- of two entries, neither comes before the other
  both_less : (a b : Entry) → entry_cmp a b ≡ Less → entry_cmp b a ≡ Less → ⊥
  both_less a b less back = Less-not_back (entry_cmp b a) back (sym (entry_cmp_total.antisymm a b) ∙ less)

  seen : (ids : List EntryId) (k : ℕ) (x : EntryId) (a : Entry) → slice_get ids k ≡ Some x → slice_get entries x.entry ≡ Some a → ranked_entry entries ids k ≡ Some a
  seen [] k x a here there = absurd cc
  seen (y ∷ ids) zero x a here there = ap (λ (id : EntryId). slice_get entries id.entry) (same_Some y x here) ∙ there
  seen (y ∷ ids) (suc k) x a here there = seen ids k x a here there

  first_same : (x y : EntryId) (xs ys : List EntryId) → Rises (x ∷ xs) → Rises (y ∷ ys) → Known x → Known y → IsIn (y ∷ ys) x → IsIn (x ∷ xs) y → x ≡ y
  first_same x y xs ys up other known_x known_y (zero, here) back = sym (same_Some y x here)
  first_same x y xs ys up other known_x known_y (suc i, here) (zero, there) = same_Some x y there
  first_same x y xs ys up other known_x known_y (suc i, here) (suc j, there) =
      absurd (both_less known_x.0 known_y.0
      (up 0 (suc j) known_x.0 known_y.0 (omega arith) known_x.1 (seen (x ∷ xs) (suc j) y known_y.0 there known_y.1))
      (other 0 (suc i) known_y.0 known_x.0 (omega arith) known_y.1 (seen (y ∷ ys) (suc i) x known_x.0 here known_x.1)))

  -- the entries after the first of one list come after the first of the other
  after : (x y z : EntryId) (xs ys : List EntryId) (k : ℕ) → x ≡ y → Rises (x ∷ xs) → Known x → slice_get xs k ≡ Some z → IsIn (y ∷ ys) z → IsIn ys z
  after x y z xs ys k same up known here (zero, there) =
      let is_x : slice_get xs k ≡ Some x = here ∙ ap Some (sym (same_Some y z there) ∙ sym same) in
      let less = up 0 (suc k) known.0 known.0 (omega arith) known.1 (seen (x ∷ xs) (suc k) x known.0 is_x known.1) in
      absurd (both_less known.0 known.0 less less)
  after x y z xs ys k same up known here (suc j, there) = (j, there)

  one : (xs ys : List EntryId) → Rises xs → Rises ys → ((x : EntryId) → IsIn xs x → IsIn ys x) → ((y : EntryId) → IsIn ys y → IsIn xs y) → ((x : EntryId) → IsIn xs x → Known x) → xs ≡ ys
  one [] [] up other to back known = refl
  one [] (y ∷ ys) up other to back known = let none = (back y (0, refl)).1 in absurd cc
  one (x ∷ xs) [] up other to back known = let none = (to x (0, refl)).1 in absurd cc
  one (x ∷ xs) (y ∷ ys) up other to back known =
      let known_x = known x (0, refl) in
      let known_y = known y (back y (0, refl)) in
      let first = first_same x y xs ys up other known_x known_y (to x (0, refl)) (back y (0, refl)) in
      let rest = one xs ys (λ i j a b lt. up (suc i) (suc j) a b (omega (arith, lt))) (λ i j a b lt. other (suc i) (suc j) a b (omega (arith, lt)))
      (λ z p. after x y z xs ys p.0 first up known_x p.1 (to z (suc p.0, p.1)))
      (λ z p. after y x z ys xs p.0 (sym first) other known_y p.1 (back z (suc p.0, p.1)))
      (λ z p. known z (suc p.0, p.1)) in
      λ i. first i ∷ rest i

  in-Contains : (ids : List EntryId) (x : EntryId) → Contains ids x → IsIn ids x
  in-Contains ids x held = (held.0, slice_get_read ids (length ids) held.0 x refl held.1 (sym held.2))

  Contains-in : (ids : List EntryId) (x : EntryId) → IsIn ids x → Contains ids x
  Contains-in ids x (k, here) = (k, slice_get_within ids k x here, get_or_from_slice_get ids k x x here)

  moved : (all xs ys : List EntryId) → IsPermutation all xs → IsPermutation all ys → (x : EntryId) → IsIn xs x → IsIn ys x
  moved all xs ys whole other x held =
      in-Contains ys x (Contains-permutation all ys x other (Contains-permutation xs all x (IsPermutation-sym all xs whole) (Contains-in xs x held)))

  known_all : (number : ℕ) → All Known (ids_of number entries)
  known_all number k d below =
      let id_at : ℕ → EntryId = λ k. record { context = number; entry = k } in
      let within : k < length entries = omega (arith, below, length-map-range_with_len id_at 0 (length entries)) in
      subst Known (sym (get_or-map-range_with_len id_at 0 (length entries) k k d within (omega arith))) (at entries k within)

  -- a ranking is the order in the definition
  ranking-one : (number : ℕ) (ids : List EntryId) → AreApart entries → IsRanking number entries ids → ids ≡ in_order entries (ids_of number entries)
  ranking-one number ids apart ranking =
      let all = ids_of number entries in
      let other = ranking-in_order number apart in
      one ids (in_order entries all) ranking.rising other.rising (moved all ids (in_order entries all) ranking.whole other.whole) (moved all (in_order entries all) ids other.whole ranking.whole)
      (λ x held. all_at Known ids held.0 x (All-permutation Known all ids ranking.whole (known_all number)) held.1)

-- ---- in a dialplan

abbrev entries_of : Option PlanContext → List Entry
entries_of o = option_map_or (λ context. context.entries) o []

-- the order of the entries of a context is their ranking
pub ranked_is_ranking : (plan : PlanOf) → All (λ (context : PlanContext). AreApart context.entries) plan.contexts → (number : ℕ) → IsRankedAt plan number (ranked_of plan number)
unfolding ranked_of
ranked_is_ranking plan apart number = by (slice_get plan.contexts number) refl where
  by : (o : Option PlanContext) → slice_get plan.contexts number ≡ o → MatchOption o (in_order (entries_of o) (ids_of number (entries_of o)) ≡ []) (λ (context : PlanContext). IsRanking number context.entries (in_order (entries_of o) (ids_of number (entries_of o))))
  by None here = refl
  by (Some context) here = ranking-in_order context.entries number (all_at (λ (c : PlanContext). AreApart c.entries) plan.contexts number context apart here)

-- and no other list is
pub ranked_only : (plan : PlanOf) → All (λ (context : PlanContext). AreApart context.entries) plan.contexts → (number : ℕ) (ids : List EntryId) → IsRankedAt plan number ids → ids ≡ ranked_of plan number
unfolding ranked_of
ranked_only plan apart number ids ranked = by (slice_get plan.contexts number) refl ranked where
  by : (o : Option PlanContext) → slice_get plan.contexts number ≡ o → MatchOption o (ids ≡ []) (λ (context : PlanContext). IsRanking number context.entries ids) → ids ≡ in_order (entries_of o) (ids_of number (entries_of o))
  by None here none = none
  by (Some context) here ranking = ranking-one context.entries number ids (all_at (λ (c : PlanContext). AreApart c.entries) plan.contexts number context apart here) ranking
