-- The notes on hidden entries, for one context after another.
use Rattle.std.proofs.Common.{◌≡◌, ℕ, zero, suc, ◌+◌, ◌-◌, ◌<◌, ◌≤◌, ◌==◌, nat_lt, Bool, true, false, ◌&&◌, ◌||◌, List, [], ◌∷◌, ◌++◌, length, map, take, get_or, slice_get, Option, Some, None, unwrap_or, if◌then◌else◌, append_assoc, refl, sym, ap, ◌∙◌, arith, inl, inr}
use Rattle.std.specs.Prelude.{replicate}
use Rattle.std.specs.List.{filter, list_any, range_with_len}
use Rattle.std.specs.Option.{option_and_then, option_map, option_map_or}
use Rattle.std.proofs.Math.Bool.{or-false}
use Rattle.std.proofs.Math.Dec.{eqb-suc-suc, eqb-suc-zero, eqb-zero-suc}
use Rattle.std.proofs.lemmas.Bool.{cases_lt, cases_order, eq-eqb, eqb-false, eqb-true, le-ltb, lt-ltb, ne_eqb}
use Rattle.std.proofs.lemmas.Cmp.{nat_eq_equiv, nat_list_eq_equiv}
use Rattle.std.proofs.lemmas.List.{append-nil, take_more}
use Rattle.std.proofs.lemmas.List.Folds.{list_any-append}
use Rattle.std.proofs.lemmas.List.FromFn.{filter_of_map_range_with_len_more}
use Rattle.std.proofs.lemmas.Option.{slice_get-map, slice_get_past}
use Rattle.dp_lookup.specs.FoundEntry.{entries_at, passes}
use Rattle.dp_lookup.specs.SearchOrder.{context_count, has}
use Rattle.dp_plan.specs.Contexts.{PlanContext}
use Rattle.dp_plan.specs.Lookup.{entry_at}
use Rattle.dp_plan.specs.Plan.{PlanOf}
use Rattle.dp_plan.specs.declared.entry.Entry.{Entry}
use Rattle.dp_plan.specs.declared.entry.EntryId.{EntryId}
use Rattle.dp_audit.specs.Candidates.{same_id}
use Rattle.dp_audit.specs.Hidden.{hidden_from, is_hidden, some_shares}
use Rattle.dp_conf.specs.Changes.{changed_at}
use Rattle.dp_audit.specs.steps.Hiding.{Adds, AreHidden, Grows, Notes, all_hidden, numbers_asked, for_each, for_one, is_among, is_at, no_notes, noted_at, place_of, same_place, some_at, with_number}
use Rattle.dp_audit.specs.Orders.{before, order_at}
use Rattle.dp_audit.specs.declared.entry_place.EntryPlace.{EntryPlace}
use Rattle.dp_audit.proofs.OrderLemmas.{AreOnce, order_once}

-- ---- places

same_place_symm : (a b : EntryPlace) → same_place a b ≡ same_place b a
same_place_symm a b i = nat_list_eq_equiv.symm a.name b.name i && nat_eq_equiv.symm a.priority b.priority i

-- the place is the one that was added, or is among the others
pub place_added : (added place : EntryPlace) (among : Bool) → (if same_place added place then true else among) ≡ (among || same_place place added)
place_added added place among = ap (λ b. if b then true else among) (same_place_symm added place) ∙ by among (same_place place added)
  where
    by : (a b : Bool) → (if b then true else a) ≡ (a || b)
    by true true = refl
    by true false = refl
    by false true = refl
    by false false = refl

-- ---- lists with one element changed

module _ {X : Type 0} where
  pub same_map : (o : Option X) → o ≡ option_map (λ x. x) o
  same_map None = refl
  same_map (Some x) = refl

  -- the element at a place after a change
  abbrev pub changed_if : (X → X) → Bool → Option X → Option X
  changed_if change here o = option_map (λ x. if here then change x else x) o

  pub slice_get-changed : (change : X → X) (place k : ℕ) (xs : List X)
      → slice_get (changed_at change place xs) k ≡ changed_if change (k == place) (slice_get xs k)
  slice_get-changed change place k [] = refl
  slice_get-changed change zero zero (x ∷ xs) = ap (λ here. changed_if change here (Some x)) (sym (eq-eqb zero zero refl))
  slice_get-changed change zero (suc k) (x ∷ xs) =
      same_map (slice_get xs k) ∙ ap (λ here. changed_if change here (slice_get xs k)) (sym (eqb-suc-zero k))
  slice_get-changed change (suc place) zero (x ∷ xs) = ap (λ here. changed_if change here (Some x)) (sym (eqb-zero-suc place))
  slice_get-changed change (suc place) (suc k) (x ∷ xs) =
      slice_get-changed change place k xs ∙ ap (λ here. changed_if change here (slice_get xs k)) (sym (eqb-suc-suc k place))

-- ---- notes

-- the notes after a change of the notes on one entry
noted-changed : (change : List ℕ → List ℕ) (id other : EntryId) (notes : Notes)
    → noted_at (changed_at (changed_at change id.entry) id.context notes) other
    ≡ option_map (λ noted. if same_id other id then change noted else noted) (noted_at notes other)
noted-changed change id other notes =
    ap (option_and_then (λ (numbers : List (List ℕ)). slice_get numbers other.entry)) (slice_get-changed (changed_at change id.entry) id.context other.context notes)
    ∙ by (slice_get notes other.context) (other.context == id.context)
  where
    by : (numbers : Option (List (List ℕ))) (b : Bool) →
        option_and_then (λ (numbers : List (List ℕ)). slice_get numbers other.entry) (option_map (λ numbers. if b then changed_at change id.entry numbers else numbers) numbers)
        ≡ option_map (λ noted. if b && other.entry == id.entry then change noted else noted) (option_and_then (λ (numbers : List (List ℕ)). slice_get numbers other.entry) numbers)
    by None b = refl
    by (Some numbers) true = slice_get-changed change id.entry other.entry numbers
    by (Some numbers) false = same_map (slice_get numbers other.entry)

-- nothing more is noted
pub grows_none : (notes : Notes) (more : EntryId → List ℕ) → ((id : EntryId) → more id ≡ []) → Grows notes notes more
grows_none notes more none id = by (noted_at notes id)
  where
    by : (o : Option (List ℕ)) → o ≡ option_map (λ noted. noted ++ more id) o
    by None = refl
    by (Some noted) = ap Some (sym (append-nil noted) ∙ ap (λ xs. noted ++ xs) (sym (none id)))

-- some notes, and then more
pub grows_both : (a b c : Notes) (f g h : EntryId → List ℕ) → Grows a b f → Grows b c g → ((id : EntryId) → f id ++ g id ≡ h id) → Grows a c h
grows_both a b c f g h first second same id =
    second id ∙ ap (option_map (λ noted. noted ++ g id)) (first id) ∙ by (noted_at a id)
  where
    by : (o : Option (List ℕ)) → option_map (λ noted. noted ++ g id) (option_map (λ noted. noted ++ f id) o) ≡ option_map (λ noted. noted ++ h id) o
    by None = refl
    by (Some noted) = ap Some (append_assoc noted (f id) (g id) ∙ ap (λ xs. noted ++ xs) (same id))

-- the same notes, stated differently
pub grows_as : (a b : Notes) (f g : EntryId → List ℕ) → Grows a b f → ((id : EntryId) → f id ≡ g id) → Grows a b g
grows_as a b f g grown same id = grown id ∙ ap (λ more. option_map (λ noted. noted ++ more) (noted_at a id)) (same id)

-- a number is noted for one entry, if its place is among these
pub grows_one : (places : List EntryPlace) (id : EntryId) (entry : Entry) (from : ℕ) (notes : Notes) → is_among places entry ≡ true
    → Grows notes (changed_at (changed_at (with_number from) id.entry) id.context notes) (for_one places id entry from)
grows_one places id entry from notes among other =
    noted-changed (with_number from) id other notes
    ∙ by (same_id other id) (is_among places entry) among (noted_at notes other)
  where
    by : (b c : Bool) → c ≡ true → (o : Option (List ℕ))
        → option_map (λ noted. if b then noted ++ from ∷ [] else noted) o ≡ option_map (λ noted. noted ++ (if b && c then from ∷ [] else [])) o
    by b false e o = absurd cc
    by b true e None = refl
    by true true e (Some noted) = refl
    by false true e (Some noted) = ap Some (sym (append-nil noted))

-- if its place is not among these, nothing is
pub for_none : (places : List EntryPlace) (id : EntryId) (entry : Entry) (from : ℕ) → is_among places entry ≡ false → (other : EntryId) → for_one places id entry from other ≡ []
for_none places id entry from absent other = by (same_id other id) (is_among places entry) absent
  where
    by : (b c : Bool) → c ≡ false → (if b && c then from ∷ [] else []) ≡ []
    by b true e = absurd cc
    by true false e = refl
    by false false e = refl

-- ---- the entries of a context

-- the entries below a number
abbrev pub below : ℕ → (EntryId → List ℕ) → EntryId → List ℕ
below count more id = if nat_lt id.entry count then more id else []

-- the entry with the numbers, given its context
pub entry_by : (plan : PlanOf) (number k : ℕ) → entry_at plan (record { context = number; entry = k }) ≡ slice_get (entries_at plan number) k
entry_by plan number k = by (slice_get plan.contexts number)
  where
    by : (o : Option PlanContext) → option_and_then (λ context. slice_get context.entries k) o ≡ slice_get (option_map_or (λ context. context.entries) o []) k
    by None = refl
    by (Some context) = refl

module _ (plan : PlanOf) (places : List EntryPlace) (number from : ℕ) where
  abbrev each : EntryId → List ℕ
  each = for_each plan (is_among places) number from

  -- the entry with these numbers, if its context is the one with the number
  entry_there : (id : EntryId) → (id.context == number) ≡ true → entry_at plan id ≡ slice_get (entries_at plan number) id.entry
  entry_there id same = (λ i. entry_at plan (record { context = eqb-true id.context number same i; entry = id.entry })) ∙ entry_by plan number id.entry

  abbrev one_if : Bool → List ℕ
  one_if is_one = if is_one then from ∷ [] else []

  -- one more entry
  pub one_more : (k : ℕ) (entry : Entry) → slice_get (entries_at plan number) k ≡ Some entry → (id : EntryId)
      → below k each id ++ for_one places (record { context = number; entry = k }) entry from id ≡ below (k + 1) each id
  one_more k entry here id = elim (cases_order id.entry k) [
    | inl same ↦ at same
    | inr (inl lower) ↦ within lower
    | inr (inr above) ↦ beyond above
  ]
    where
      old : Bool → List ℕ
      old lower = if lower then each id else []

      new : Bool → List ℕ
      new same = one_if ((id.context == number && same) && is_among places entry)

      by_context : id.entry ≡ k → (b : Bool) → (id.context == number) ≡ b
          → one_if ((b && true) && is_among places entry) ≡ one_if (b && passes plan (is_among places) id)
      by_context same false other = refl
      by_context same true there =
          ap one_if (sym (ap (λ o. option_map_or (is_among places) o false) (entry_there id there ∙ ap (slice_get (entries_at plan number)) same ∙ here)))

      at : id.entry ≡ k → old (nat_lt id.entry k) ++ new (id.entry == k) ≡ old (nat_lt id.entry (k + 1))
      at same =
          (λ i. old (le-ltb id.entry k (omega (arith, same)) i) ++ new (eq-eqb id.entry k same i))
          ∙ by_context same (id.context == number) refl
          ∙ sym (ap old (lt-ltb id.entry (k + 1) (omega (arith, same))))

      no_hit : (b : Bool) → one_if ((b && false) && is_among places entry) ≡ []
      no_hit true = refl
      no_hit false = refl

      within : id.entry < k → old (nat_lt id.entry k) ++ new (id.entry == k) ≡ old (nat_lt id.entry (k + 1))
      within lower =
          (λ i. old (lt-ltb id.entry k lower i) ++ new (ne_eqb id.entry k (λ same. omega (arith, lower, same)) i))
          ∙ ap (λ xs. each id ++ xs) (no_hit (id.context == number))
          ∙ append-nil (each id)
          ∙ sym (ap old (lt-ltb id.entry (k + 1) (omega (arith, lower))))

      beyond : k < id.entry → old (nat_lt id.entry k) ++ new (id.entry == k) ≡ old (nat_lt id.entry (k + 1))
      beyond above =
          (λ i. old (le-ltb id.entry k (omega (arith, above)) i) ++ new (ne_eqb id.entry k (λ same. omega (arith, above, same)) i))
          ∙ no_hit (id.context == number)
          ∙ sym (ap old (le-ltb id.entry (k + 1) (omega (arith, above))))

  -- all entries
  pub all_below : (count : ℕ) → length (entries_at plan number) ≤ count → (id : EntryId) → below count each id ≡ each id
  all_below count all id = elim (cases_lt id.entry count) [
    | inl lower ↦ ap (λ b. if b then each id else []) (lt-ltb id.entry count lower)
    | inr past ↦ ap (λ b. if b then each id else []) (le-ltb id.entry count past) ∙ by past (id.context == number) refl
  ]
    where
      by : count ≤ id.entry → (b : Bool) → (id.context == number) ≡ b → [] ≡ one_if (b && passes plan (is_among places) id)
      by past false other = refl
      by past true there =
          ap one_if (sym (ap (λ o. option_map_or (is_among places) o false)
          (entry_there id there ∙ slice_get_past (entries_at plan number) id.entry (omega (arith, all, past)))))

-- ---- the contexts of an order

module _ (plan : PlanOf) (from : ℕ) where
  -- the notes on the contexts of an order, after those on others
  pub numbers_asked-push : (earlier order : List ℕ) (number : ℕ) (id : EntryId)
      → numbers_asked plan from earlier order id ++ for_each plan (some_shares plan (earlier ++ order)) number from id
      ≡ numbers_asked plan from earlier (order ++ number ∷ []) id
  numbers_asked-push earlier [] number id =
      ap (λ contexts. for_each plan (some_shares plan contexts) number from id) (append-nil earlier)
      ∙ sym (append-nil (for_each plan (some_shares plan earlier) number from id))
  numbers_asked-push earlier (first ∷ order) number id =
      let here = for_each plan (some_shares plan earlier) first from id in
      let next = earlier ++ first ∷ [] in
      append_assoc here (numbers_asked plan from next order id) (for_each plan (some_shares plan (earlier ++ first ∷ order)) number from id)
      ∙ ap (λ contexts. here ++ (numbers_asked plan from next order id ++ for_each plan (some_shares plan contexts) number from id)) (sym (append_assoc earlier (first ∷ []) order))
      ∙ ap (λ xs. here ++ xs) (numbers_asked-push next order number id)

  abbrev one : Bool → List ℕ
  one is_one = if is_one then from ∷ [] else []

  -- an order that has each context once asks about each entry once
  asked_once : (earlier order : List ℕ) (id : EntryId) → AreOnce order
      → numbers_asked plan from earlier order id ≡ one (has order id.context && passes plan (some_shares plan (earlier ++ before id.context order)) id)
  asked_once earlier [] id once = refl
  asked_once earlier (first ∷ order) id once =
      at_first earlier first order id once (asked_once (earlier ++ first ∷ []) order id once.1) (id.context == first) refl
    where
      by_first : Bool → Bool → List ℕ → ℕ → List ℕ → EntryId → List ℕ
      by_first here last earlier first order id =
          one ((here || last) && passes plan (some_shares plan (earlier ++ (if here then [] else first ∷ before id.context order))) id)

      at_first : (earlier : List ℕ) (first : ℕ) (order : List ℕ) (id : EntryId) → AreOnce (first ∷ order)
          → numbers_asked plan from (earlier ++ first ∷ []) order id
          ≡ one (has order id.context && passes plan (some_shares plan ((earlier ++ first ∷ []) ++ before id.context order)) id)
          → (b : Bool) → (id.context == first) ≡ b
          → one (b && passes plan (some_shares plan earlier) id) ++ numbers_asked plan from (earlier ++ first ∷ []) order id
          ≡ by_first (first == id.context) (has order id.context) earlier first order id
      at_first earlier first order id once rest true here =
          let same : first ≡ id.context = sym (eqb-true id.context first here) in
          let gone : has order id.context ≡ false = ap (has order) (sym same) ∙ once.0 in
          let mine = one (passes plan (some_shares plan earlier) id) in
          ap (λ xs. mine ++ xs)
          (rest ∙ ap (λ b. one (b && passes plan (some_shares plan ((earlier ++ first ∷ []) ++ before id.context order)) id)) gone)
          ∙ append-nil mine
          ∙ ap (λ contexts. one (passes plan (some_shares plan contexts) id)) (sym (append-nil earlier))
          ∙ sym (ap (λ b. by_first b (has order id.context) earlier first order id) (eq-eqb first id.context same))
      at_first earlier first order id once rest false other =
          let apart : (first == id.context) ≡ false = ne_eqb first id.context (λ same. eqb-false id.context first other (sym same)) in
          rest
          ∙ ap (λ contexts. one (has order id.context && passes plan (some_shares plan contexts) id)) (append_assoc earlier (first ∷ []) (before id.context order))
          ∙ sym (ap (λ b. by_first b (has order id.context) earlier first order id) apart)

  -- the notes on the entries that are hidden from a context
  pub asked_is_hidden : (id : EntryId) → numbers_asked plan from [] (order_at plan from) id ≡ one (passes plan (λ entry. is_hidden plan id entry from) id)
  asked_is_hidden id = asked_once [] (order_at plan from) id (order_once plan from) ∙ by (entry_at plan id) (has (order_at plan from) id.context)
    where
      by : (o : Option Entry) (b : Bool) → one (b && option_map_or (some_shares plan (before id.context (order_at plan from))) o false)
          ≡ one (option_map_or (λ entry. b && some_shares plan (before id.context (order_at plan from)) entry) o false)
      by None true = refl
      by None false = refl
      by (Some entry) true = refl
      by (Some entry) false = refl

-- ---- the places before a context of an order

-- the places of one more context
pub places_next : (plan : PlanOf) (order : List ℕ) (place context : ℕ) (old new : List EntryPlace) → 1 ≤ place → place < length order
    → context ≡ get_or order (place - 1) 0
    → Adds (some_at plan (take (place - 1) order)) [] old → Adds (λ p. list_any (is_at p) (entries_at plan context)) old new
    → Adds (some_at plan (take place order)) [] new
places_next plan order place context old new after within here before added p =
    added p
    ∙ ap (λ b. b || list_any (is_at p) (entries_at plan context)) (before p)
    ∙ ap (λ b. some_at plan (take (place - 1) order) p || b) (sym (or-false (list_any (is_at p) (entries_at plan context))))
    ∙ sym (list_any-append (λ number. list_any (is_at p) (entries_at plan number)) (take (place - 1) order) (context ∷ []))
    ∙ ap (λ contexts. some_at plan contexts p) (sym one_more_taken)
  where
    one_more_taken : take place order ≡ take (place - 1) order ++ context ∷ []
    one_more_taken =
        ap (λ n. take n order) (omega (arith, after)) ∙ take_more order (place - 1) 0 (omega (arith, after, within))
        ∙ ap (λ n. take (place - 1) order ++ n ∷ []) (sym here)

-- the notes on one more context
pub noted_next : (plan : PlanOf) (from : ℕ) (order : List ℕ) (place number : ℕ) (places : List EntryPlace) (a b c : Notes) → place < length order
    → number ≡ get_or order place 0 → Adds (some_at plan (take place order)) [] places
    → Grows a b (numbers_asked plan from [] (take place order)) → Grows b c (for_each plan (is_among places) number from)
    → Grows a c (numbers_asked plan from [] (take (place + 1) order))
noted_next plan from order place number places a b c within here before first second =
    grows_both a b c (numbers_asked plan from [] (take place order)) (for_each plan (is_among places) number from) (numbers_asked plan from [] (take (place + 1) order))
    first second
    (λ id.
    (λ i. numbers_asked plan from [] (take place order) id ++ for_each plan (λ entry. before (place_of entry) i) number from id)
    ∙ numbers_asked-push plan from [] (take place order) number id
    ∙ ap (λ contexts. numbers_asked plan from [] contexts id)
    (sym (take_more order place 0 within ∙ ap (λ n. take place order ++ n ∷ []) (sym here))))

-- ---- all contexts

-- one more context
pub all_hidden_more : (plan : PlanOf) (count : ℕ) (id : EntryId)
    → all_hidden plan count id ++ numbers_asked plan count [] (order_at plan count) id ≡ all_hidden plan (count + 1) id
all_hidden_more plan count id =
    ap (λ xs. all_hidden plan count id ++ xs) (asked_is_hidden plan count id)
    ∙ ap (λ numbers. filter test numbers ++ (if test count then count ∷ [] else [])) (sym (map_same (range_with_len 0 count)))
    ∙ sym (filter_of_map_range_with_len_more test (λ n. n) 0 count count (omega arith))
    ∙ ap (filter test) (map_same (range_with_len 0 (count + 1)))
  where
    test : ℕ → Bool
    test from = passes plan (λ entry. is_hidden plan id entry from) id

    map_same : (ns : List ℕ) → map (λ n. n) ns ≡ ns
    map_same [] = refl
    map_same (n ∷ ns) = ap (λ (t : List ℕ). n ∷ t) (map_same ns)

abbrev no_numbers : List ℕ
no_numbers = []

-- at first nothing is noted for any entry
pub nothing_noted : (plan : PlanOf) (id : EntryId) → noted_at (no_notes plan.contexts) id ≡ option_map (λ entry. []) (entry_at plan id)
nothing_noted plan id =
    ap (option_and_then (λ (numbers : List (List ℕ)). slice_get numbers id.entry)) (slice_get-map (λ context. replicate (length context.entries) []) plan.contexts id.context)
    ∙ by (slice_get plan.contexts id.context)
  where
    none : (xs : List Entry) (k : ℕ) → slice_get (replicate (length xs) no_numbers) k ≡ option_map (λ x. []) (slice_get xs k)
    none [] k = refl
    none (x ∷ xs) zero = refl
    none (x ∷ xs) (suc k) = none xs k

    by : (o : Option PlanContext)
        → option_and_then (λ (numbers : List (List ℕ)). slice_get numbers id.entry) (option_map (λ context. replicate (length context.entries) []) o)
        ≡ option_map (λ entry. []) (option_and_then (λ context. slice_get context.entries id.entry) o)
    by None = refl
    by (Some context) = none context.entries id.entry

-- the notes on all contexts are from which of them each entry is hidden
pub all_noted : (plan : PlanOf) (notes : Notes) → Grows (no_notes plan.contexts) notes (all_hidden plan (context_count plan)) → AreHidden plan notes
unfolding hidden_from
all_noted plan notes grown id entry there =
    grown id
    ∙ ap (option_map (λ noted. noted ++ all_hidden plan (context_count plan) id)) (nothing_noted plan id ∙ ap (option_map (λ entry. [])) there)
    ∙ ap (λ o. Some (filter (λ from. option_map_or (λ entry. is_hidden plan id entry from) o false) (range_with_len 0 (context_count plan)))) there

-- the contexts from which an entry is hidden are those that are noted
pub hidden_as_noted : (plan : PlanOf) (notes : Notes) (id : EntryId) (entry : Entry) → AreHidden plan notes → entry_at plan id ≡ Some entry
    → unwrap_or (noted_at notes id) [] ≡ hidden_from plan id entry
hidden_as_noted plan notes id entry are there = ap (λ o. unwrap_or o []) (are id entry there)
