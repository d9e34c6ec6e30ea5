-- A look-up with a test finds the least entry that passes, in any dialplan.
use Rattle.std.proofs.Common.{◌≡◌, ◌≢◌, ℕ, zero, suc, ◌<◌, ◌≤◌, Bool, true, false, cond, ◌&&◌, ◌==◌, true≢false, eq-eqb, eqb-true, Decides, List, [], ◌∷◌, length, get_or, Option, Some, None, MatchOption, Contains, inl, inr, arith, refl, sym, ap, ◌∙◌, subst, nat_cmp, Ordering, Less, Equal, Greater}
use Rattle.std.specs.Prelude.{◌↔◌, IsTrue, is_some, slice_get, All}
use Rattle.std.specs.Cmp.{IsTotalOrder, nat_cmp_is}
use Rattle.std.specs.Cmp.Lexicographic.{bytes_decides}
use Rattle.std.specs.List.{AllByRecursion, filter, fold, reduce, range_with_len}
use Rattle.std.specs.Option.{option_and_then, option_map, option_map_or, option_or}
use Rattle.std.specs.Ordering.{min_by_ordering, ordering_reverse, ordering_then}
use Rattle.std.proofs.lemmas.Bool.{cases_order}
use Rattle.std.proofs.lemmas.List.Elements.{All-filter, All-from_recursion, All-map, filter_passes, recursion_from_All}
use Rattle.std.proofs.lemmas.List.FromFn.{length-map-range_with_len, get_or-map-range_with_len}
use Rattle.std.proofs.lemmas.Option.{get_or_from_slice_get, none-some, same_Some, slice_get_within}
use Rattle.dp_pattern.specs.GoesOn.{GoesOn}
use Rattle.dp_pattern.specs.Matches.{Matches}
use Rattle.dp_pattern.specs.Name.{IsName}
use Rattle.dp_pattern.specs.Order.{name_cmp}
use Rattle.dp_pattern.proofs.GoesOnLemmas.{going_on}
use Rattle.dp_pattern.proofs.MeaningLemmas.{name_means}
use Rattle.dp_pattern.proofs.OrderLemmas.{name_cmp_total}
use Rattle.dp_pattern.proofs.WalkLemmas.{walk_decides_match}
use Rattle.dp_plan.specs.Contexts.{PlanContext, AreNamed}
use Rattle.dp_plan.specs.Lookup.{entry_at}
use Rattle.dp_plan.specs.Plan.{PlanOf, shares_label}
use Rattle.dp_plan.specs.Ranking.{entry_cmp, ids_of, AreApart}
use Rattle.dp_plan.specs.declared.entry.Entry.{Entry}
use Rattle.dp_plan.specs.declared.entry.EntryId.{EntryId}
use Rattle.dp_plan.proofs.RankingLemmas.{entry_cmp_total, one_place}
use Rattle.dp_lookup.specs.Found.{HasPriority, HasLabel, BeginsLater, StandsAt, found_cmp, IsLeast, NoneAsked, IsFound, IsFoundLabel, SomeGoesOn}
use Rattle.dp_lookup.specs.FoundEntry.{matches_name, goes_on_from, has_priority, has_label, begins_later, entries_at, passes, passing, id_cmp, lesser, least, found_by, priority_at, found_entry, found_label, goes_on_more}

-- ---- the least of a list

-- y is not less than x
abbrev Below : {X : Type 0} → (X → X → Ordering) → X → X → Type 0
Below cmp x y = cmp y x ≡ Less → ⊥

module _ {X : Type 0} (cmp : X → X → Ordering) (In : X → Type 0) (back : (x y : X) → In x → In y → cmp x y ≡ ordering_reverse (cmp y x)) (chain : (x y z : X) → In x → In y → In z → Below cmp x y → Below cmp y z → Below cmp x z) where
  abbrev pick : X → X → X
  pick x y = min_by_ordering (cmp x y) x y

  below_itself : (x : X) → In x → Below cmp x x
  below_itself x here less = let other_way = back x x here here ∙ ap ordering_reverse less in absurd cc

  below_by : (x y : X) (o : Ordering) → In x → In y → cmp x y ≡ o → o ≢ Greater → Below cmp x y
  below_by x y o here there e few less =
      let other_way = back x y here there ∙ ap ordering_reverse less in
      few (sym e ∙ other_way)

  -- none of these is less than the given one
  record IsLeastOf (xs : List X) (x : X) : Type 0 where
    inside : In x
    none_less : AllByRecursion (Below cmp x) xs

  least_of_more : (x : X) (ys : List X) → In x → AllByRecursion In ys → IsLeastOf (x ∷ ys) (fold pick x ys)
  least_of_more x [] here each = record { inside = here; none_less = (below_itself x here, tt) }
  least_of_more x (y ∷ ys) here each = by (least_of_more x ys here each.1) (least_of_more y ys each.0 each.1) (cmp x y) refl
    where
      first : IsLeastOf (x ∷ ys) (fold pick x ys) → Below cmp x y → IsLeastOf (x ∷ y ∷ ys) (fold pick x ys)
      first low below = record {
        inside = low.inside;
        none_less = (low.none_less.0, (chain (fold pick x ys) x y low.inside here each.0 low.none_less.0 below, low.none_less.1));
      }

      by : IsLeastOf (x ∷ ys) (fold pick x ys) → IsLeastOf (y ∷ ys) (fold pick y ys) → (o : Ordering) → cmp x y ≡ o → IsLeastOf (x ∷ y ∷ ys) (fold pick (min_by_ordering o x y) ys)
      by low other Less e = first low (below_by x y Less here each.0 e (λ q. absurd cc))
      by low other Equal e = first low (below_by x y Equal here each.0 e (λ q. absurd cc))
      by low other Greater e = record {
        inside = other.inside;
        none_less = (chain (fold pick y ys) y x other.inside each.0 here other.none_less.0 (λ less. absurd cc), other.none_less);
      }

  least_of_all : (xs : List X) → AllByRecursion In xs → MatchOption (reduce pick xs) (xs ≡ []) (IsLeastOf xs)
  least_of_all [] each = refl
  least_of_all (x ∷ xs) each = least_of_more x xs each.0 each.1

-- in a total order, not being less is transitive
chain_total : {K : Type 0} (R : K → K → Ordering) → IsTotalOrder R → (x y z : K) → Below R x y → Below R y z → Below R x z
chain_total R total x y z low high less = by (R y x) refl
  where
    by : (o : Ordering) → R y x ≡ o → ⊥
    by Less e = low e
    by Equal e =
        let far : R x z ≡ Greater = total.antisymm x z ∙ ap ordering_reverse less in
        let near : R y z ≡ Greater = total.congr y x z e ∙ far in
        high (total.antisymm z y ∙ ap ordering_reverse near)
    by Greater e =
        let up : R x y ≡ Less = total.antisymm x y ∙ ap ordering_reverse e in
        high (total.trans z x y less up)

-- a filter keeps an element that passes
Contains-filter : {X : Type 0} (p : X → Bool) (xs : List X) (x : X) (k : ℕ) → p x ≡ true → k < length xs → get_or xs k x ≡ x → Contains (filter p xs) x
Contains-filter p [] x k passing within e = absurd (omega (arith, within))
Contains-filter p (y ∷ ys) x zero passing within e = by (p y) (ap p e ∙ passing)
  where
    by : (t : Bool) → t ≡ true → Contains (cond t (y ∷ filter p ys) (filter p ys)) x
    by true passing = (0, omega arith, e)
    by false passing = absurd (true≢false (sym passing))
Contains-filter p (y ∷ ys) x (suc k) passing within e = by (p y) (Contains-filter p ys x k passing (omega (arith, within)) e)
  where
    by : (t : Bool) → Contains (filter p ys) x → Contains (cond t (y ∷ filter p ys) (filter p ys)) x
    by true held = (suc held.0, omega (arith, held.1), held.2)
    by false held = held

-- ---- one context

id_cmp_is : (plan : PlanOf) (a b : EntryId) (x y : Entry) → entry_at plan a ≡ Some x → entry_at plan b ≡ Some y → id_cmp plan a b ≡ entry_cmp x y
id_cmp_is plan a b x y ea eb =
    ap (λ o. option_map_or (λ x. option_map_or (entry_cmp x) (entry_at plan b) Equal) o Equal) ea
    ∙ ap (λ o. option_map_or (entry_cmp x) o Equal) eb

-- the entry with a number, among those of its context
entry_among : (o : Option PlanContext) (k : ℕ) (entry : Entry) → option_and_then (λ context. slice_get context.entries k) o ≡ Some entry → slice_get (option_map_or (λ context. context.entries) o []) k ≡ Some entry
entry_among None k entry there = absurd (none-some entry there)
entry_among (Some context) k entry there = there

-- no entry of the context is a wanted one
abbrev pub NoneIn : PlanOf → ℕ → (Entry → Type 0) → Type 0
NoneIn plan number Wanted =
    (id : EntryId) (entry : Entry) → id.context ≡ number → entry_at plan id ≡ Some entry → Wanted entry → ⊥

-- the entry of the context is a wanted one, and no other wanted one in it is less
pub record IsLeastIn (plan : PlanOf) (number : ℕ) (Wanted : Entry → Type 0) (id : EntryId) : Type 0 where
  pub entry : Entry
  pub here : id.context ≡ number
  pub there : entry_at plan id ≡ Some entry
  pub asked : Wanted entry
  pub least : (other : EntryId) (a : Entry) → other.context ≡ number → entry_at plan other ≡ Some a → Wanted a → entry_cmp a entry ≢ Less

-- none of the first contexts in the order, this many, has a wanted entry
abbrev NoneFirst : PlanOf → List ℕ → (Entry → Type 0) → ℕ → Type 0
NoneFirst plan order Wanted count =
    (place : ℕ) (id : EntryId) (entry : Entry) → place < count → StandsAt plan order place id entry → Wanted entry → ⊥

-- the entry is at the first place of the order with a wanted one, and the least there
record IsFirstAt (plan : PlanOf) (order : List ℕ) (Wanted : Entry → Type 0) (place : ℕ) (id : EntryId) (entry : Entry) : Type 0 where
  stands : StandsAt plan order place id entry
  asked : Wanted entry
  before : NoneFirst plan order Wanted place
  least : (other : EntryId) (a : Entry) → other.context ≡ id.context → entry_at plan other ≡ Some a → Wanted a → entry_cmp a entry ≢ Less

record SomeFirst (plan : PlanOf) (order : List ℕ) (Wanted : Entry → Type 0) (id : EntryId) : Type 0 where
  place : ℕ
  entry : Entry
  first : IsFirstAt plan order Wanted place id entry

-- the entry is a least one, and has the lowest priority of those with its name
record SomeLeast (plan : PlanOf) (order : List ℕ) (Wanted : Entry → Type 0) (id : EntryId) : Type 0 where
  place : ℕ
  entry : Entry
  least : IsLeast Wanted plan order place id entry
  lowest : (other : EntryId) (a : Entry) → StandsAt plan order place other a → Wanted a → name_cmp a.name entry.name ≡ Equal → entry.priority ≤ a.priority

below_less : (i j : ℕ) (a b : Entry) → i < j → found_cmp i a j b ≡ Less
below_less i j a b below = ap (λ o. ordering_then o (name_cmp a.name b.name)) (sym (nat_cmp_is i j Less below))

above_greater : (i j : ℕ) (a b : Entry) → j < i → found_cmp i a j b ≡ Greater
above_greater i j a b above = ap (λ o. ordering_then o (name_cmp a.name b.name)) (sym (nat_cmp_is i j Greater above))

-- at the same place the names decide
same_place : (i j : ℕ) (a b : Entry) → i ≡ j → found_cmp i a j b ≡ name_cmp a.name b.name
same_place i j a b same = ap (λ o. ordering_then o (name_cmp a.name b.name)) (sym (nat_cmp_is i j Equal same))

-- two entries at the same place are in the same context
one_context : (plan : PlanOf) (order : List ℕ) (i j : ℕ) (other id : EntryId) (a b : Entry) → StandsAt plan order i other a → StandsAt plan order j id b → i ≡ j → other.context ≡ id.context
one_context plan order i j other id a b here there same =
    same_Some other.context id.context (sym here.context ∙ (ap (slice_get order) same ∙ there.context))

module _ (plan : PlanOf) (test : Entry → Bool) (Wanted : Entry → Type 0) (decides : (id : EntryId) (entry : Entry) → entry_at plan id ≡ Some entry → Decides (test entry) (Wanted entry)) where
  -- a wanted entry of the context
  record AskedIn (number : ℕ) (id : EntryId) : Type 0 where
    entry : Entry
    here : id.context ≡ number
    there : entry_at plan id ≡ Some entry
    asked : Wanted entry

  asked_in : (number : ℕ) (id : EntryId) → id.context ≡ number → passes plan test id ≡ true → AskedIn number id
  asked_in number id here e = by (entry_at plan id) refl e
    where
      by : (o : Option Entry) → entry_at plan id ≡ o → option_map_or test o false ≡ true → AskedIn number id
      by None there e = absurd (true≢false (sym e))
      by (Some entry) there e = record { entry = entry; here = here; there = there; asked = (decides id entry there).0 e }

  -- each one that passes is wanted
  each_asked : (number : ℕ) → AllByRecursion (AskedIn number) (passing plan test number)
  each_asked number = by (passing plan test number) pass here
    where
      pass : AllByRecursion (λ id. passes plan test id ≡ true) (passing plan test number)
      pass = recursion_from_All _ _ (filter_passes (passes plan test) (ids_of number (entries_at plan number)))

      here : AllByRecursion (λ (id : EntryId). id.context ≡ number) (passing plan test number)
      here =
          let P : EntryId → Type 0 = λ id. id.context ≡ number in
          let at : ℕ → EntryId = λ k. record { context = number; entry = k } in
          recursion_from_All P (passing plan test number)
          (All-filter (passes plan test) P (ids_of number (entries_at plan number))
          (All-map P at (range_with_len 0 (length (entries_at plan number))) (λ k d below. refl)))

      by : (ids : List EntryId) → AllByRecursion (λ id. passes plan test id ≡ true) ids → AllByRecursion (λ (id : EntryId). id.context ≡ number) ids → AllByRecursion (AskedIn number) ids
      by [] pass here = tt
      by (id ∷ ids) pass here = (asked_in number id here.0 pass.0, by ids pass.1 here.1)

  -- each wanted one passes
  stands_in : (number : ℕ) (id : EntryId) → AskedIn number id → Contains (passing plan test number) id
  stands_in number id asked =
      let entries = entries_at plan number in
      let id_at : ℕ → EntryId = λ k. record { context = number; entry = k } in
      let same : id_at id.entry ≡ id = λ i. record { context = sym asked.here i; entry = id.entry } in
      let among = entry_among (slice_get plan.contexts number) id.entry asked.entry
      (ap (λ n. option_and_then (λ (context : PlanContext). slice_get context.entries id.entry) (slice_get plan.contexts n)) (sym asked.here) ∙ asked.there) in
      let within = slice_get_within entries id.entry asked.entry among in
      let long = length-map-range_with_len id_at 0 (length entries) in
      Contains-filter (passes plan test) (ids_of number entries) id id.entry
      (ap (λ o. option_map_or test o false) asked.there ∙ (decides id asked.entry asked.there).1 asked.asked)
      (omega (arith, within, long))
      (get_or-map-range_with_len id_at 0 (length entries) id.entry id.entry id within (omega arith) ∙ same)

  back_in : (number : ℕ) (x y : EntryId) → AskedIn number x → AskedIn number y → id_cmp plan x y ≡ ordering_reverse (id_cmp plan y x)
  back_in number x y at_x at_y =
      id_cmp_is plan x y at_x.entry at_y.entry at_x.there at_y.there
      ∙ (entry_cmp_total.antisymm at_x.entry at_y.entry
      ∙ ap ordering_reverse (sym (id_cmp_is plan y x at_y.entry at_x.entry at_y.there at_x.there)))

  chain_in : (number : ℕ) (x y z : EntryId) → AskedIn number x → AskedIn number y → AskedIn number z → Below (id_cmp plan) x y → Below (id_cmp plan) y z → Below (id_cmp plan) x z
  chain_in number x y z at_x at_y at_z low high less =
      chain_total entry_cmp entry_cmp_total at_x.entry at_y.entry at_z.entry
      (λ e. low (id_cmp_is plan y x at_y.entry at_x.entry at_y.there at_x.there ∙ e))
      (λ e. high (id_cmp_is plan z y at_z.entry at_y.entry at_z.there at_y.there ∙ e))
      (sym (id_cmp_is plan z x at_z.entry at_x.entry at_z.there at_x.there) ∙ less)

  -- the least one that passes is the least wanted one
  pub least_asked : (number : ℕ) → MatchOption (least plan (passing plan test number)) (NoneIn plan number Wanted) (IsLeastIn plan number Wanted)
  least_asked number = by (passing plan test number) (stands_in number) (each_asked number)
    where
      by : (ids : List EntryId) → ((id : EntryId) → AskedIn number id → Contains ids id) → AllByRecursion (AskedIn number) ids → MatchOption (least plan ids) (NoneIn plan number Wanted) (IsLeastIn plan number Wanted)
      by [] whole each = λ id entry here there asked.
          let held = whole id (record { entry = entry; here = here; there = there; asked = asked }) in
          absurd (omega (arith, held.1))
      by (id ∷ ids) whole each =
          let low = least_of_more (id_cmp plan) (AskedIn number) (back_in number) (chain_in number) id ids each.0 each.1 in
          let one = fold (lesser plan) id ids in
          let none_less = All-from_recursion (Below (id_cmp plan) one) (id ∷ ids) low.none_less in
          record {
            entry = low.inside.entry;
            here = low.inside.here;
            there = low.inside.there;
            asked = low.inside.asked;
            least = λ other a here there asked less.
                let held = whole other (record { entry = a; here = here; there = there; asked = asked }) in
                let not_less : Below (id_cmp plan) one other = subst (Below (id_cmp plan) one) held.2 (none_less held.0 other held.1) in
                not_less (id_cmp_is plan other one a low.inside.entry there low.inside.there ∙ less);
          }

  -- ---- the contexts of an order

  -- the found entry is at the first place with a wanted entry
  found_first : (order : List ℕ) → MatchOption (found_by plan test order) (NoneAsked Wanted plan order) (SomeFirst plan order Wanted)
  found_first [] = λ place id entry stands asked. absurd (none-some id.context stands.context)
  found_first (number ∷ order) = by (least plan (passing plan test number)) (least_asked number) (found_first order)
    where
      none_here : NoneIn plan number Wanted → NoneAsked Wanted plan order → NoneAsked Wanted plan (number ∷ order)
      none_here none rest zero id entry stands asked = none id entry (sym (same_Some number id.context stands.context)) stands.there asked
      none_here none rest (suc k) id entry stands asked = rest k id entry (record { context = stands.context; there = stands.there }) asked

      none_before : NoneIn plan number Wanted → (place : ℕ) → NoneFirst plan order Wanted place → NoneFirst plan (number ∷ order) Wanted (suc place)
      none_before none place before zero id entry below stands asked = none id entry (sym (same_Some number id.context stands.context)) stands.there asked
      none_before none place before (suc k) id entry below stands asked =
          before k id entry (omega (arith, below)) (record { context = stands.context; there = stands.there }) asked

      later : NoneIn plan number Wanted → (o : Option EntryId) → MatchOption o (NoneAsked Wanted plan order) (SomeFirst plan order Wanted) → MatchOption o (NoneAsked Wanted plan (number ∷ order)) (SomeFirst plan (number ∷ order) Wanted)
      later none None rest = none_here none rest
      later none (Some id) rest = record {
        place = suc rest.place;
        entry = rest.entry;
        first = record {
          stands = record { context = rest.first.stands.context; there = rest.first.stands.there };
          asked = rest.first.asked;
          before = none_before none rest.place rest.first.before;
          least = rest.first.least;
        };
      }

      by : (o : Option EntryId) → MatchOption o (NoneIn plan number Wanted) (IsLeastIn plan number Wanted) → MatchOption (found_by plan test order) (NoneAsked Wanted plan order) (SomeFirst plan order Wanted) → MatchOption (option_or o (found_by plan test order)) (NoneAsked Wanted plan (number ∷ order)) (SomeFirst plan (number ∷ order) Wanted)
      by None none rest = later none (found_by plan test order) rest
      by (Some id) low rest = record {
        place = 0;
        entry = low.entry;
        first = record {
          stands = record { context = ap Some (sym low.here); there = low.there };
          asked = low.asked;
          before = λ k other a below stands asked. absurd (omega (arith, below));
          least = λ other a here there asked. low.least other a (here ∙ low.here) there asked;
        };
      }

  -- the first one is the least
  least_from_first : (order : List ℕ) (id : EntryId) → SomeFirst plan order Wanted id → SomeLeast plan order Wanted id
  least_from_first order id found = record {
    place = place;
    entry = entry;
    least = record {
      stands = first.stands;
      asked = first.asked;
      least = λ i other a stands asked less. elim (cases_order i place) [
        | inl same ↦
            not_less other a (one_context plan order i place other id a entry stands first.stands same) stands.there asked
            (sym (same_place i place a entry same) ∙ less)
        | inr (inl below) ↦ first.before i other a below stands asked
        | inr (inr above) ↦ (let greater = above_greater i place a entry above in absurd cc)
      ];
    };
    lowest = λ other a stands asked tied.
        lowest_by other a (one_context plan order place place other id a entry stands first.stands refl) stands.there asked tied;
  }
    where
      place : ℕ
      place = found.place

      entry : Entry
      entry = found.entry

      first : IsFirstAt plan order Wanted found.place id found.entry
      first = found.first

      not_less : (other : EntryId) (a : Entry) → other.context ≡ id.context → entry_at plan other ≡ Some a → Wanted a → name_cmp a.name found.entry.name ≡ Less → ⊥
      not_less other a here there asked less =
          found.first.least other a here there asked (ap (λ o. ordering_then o (nat_cmp a.priority found.entry.priority)) less)

      lowest_by : (other : EntryId) (a : Entry) → other.context ≡ id.context → entry_at plan other ≡ Some a → Wanted a → name_cmp a.name found.entry.name ≡ Equal → found.entry.priority ≤ a.priority
      lowest_by other a here there asked tied = elim (cases_order a.priority found.entry.priority) [
        | inl same ↦ omega (arith, same)
        | inr (inl below) ↦ absurd (found.first.least other a here there asked
            (ap (λ o. ordering_then o (nat_cmp a.priority found.entry.priority)) tied ∙ sym (nat_cmp_is a.priority found.entry.priority Less below)))
        | inr (inr above) ↦ omega (arith, above)
      ]

  -- the entry found with the test is the least wanted one
  found_least : (order : List ℕ) → MatchOption (found_by plan test order) (NoneAsked Wanted plan order) (SomeLeast plan order Wanted)
  found_least order = by (found_by plan test order) (found_first order)
    where
      by : (o : Option EntryId) → MatchOption o (NoneAsked Wanted plan order) (SomeFirst plan order Wanted) → MatchOption o (NoneAsked Wanted plan order) (SomeLeast plan order Wanted)
      by None none = none
      by (Some id) found = least_from_first order id found

-- ---- wanted entries

-- two tests together decide two facts together
both_decide : (s t : Bool) (P Q : Type 0) → Decides s P → Decides t Q → Decides (s && t) (P × Q)
both_decide true true P Q p q = (λ e. (p.0 refl, q.0 refl), λ both. refl)
both_decide true false P Q p q = (λ e. absurd (true≢false (sym e)), λ both. q.1 both.1)
both_decide false t P Q p q = (λ e. absurd (true≢false (sym e)), λ both. p.1 both.0)

has_priority-decides : (text : List ℕ) (priority : ℕ) (entry : Entry) → Decides (has_priority text priority entry) (HasPriority text priority entry)
has_priority-decides text priority entry =
    let both = both_decide (matches_name entry.name text) (entry.priority == priority) (Matches entry.name text) (entry.priority ≡ priority) (walk_decides_match entry.name text) (eqb-true entry.priority priority, eq-eqb entry.priority priority) in
    (λ e. let parts = both.0 e in record { matching = parts.0; same = parts.1 }, λ has. both.1 (has.matching, has.same))

shares_label-decides : (own : Option (List ℕ)) (label : List ℕ) → Decides (shares_label own (Some label)) (own ≡ Some label)
shares_label-decides None label = (λ e. absurd (true≢false (sym e)), λ e. absurd (none-some label e))
shares_label-decides (Some own) label =
    let same = bytes_decides own label in
    (λ e. ap Some (same.0 e), λ e. same.1 (same_Some own label e))

has_label-decides : (text label : List ℕ) (entry : Entry) → Decides (has_label text label entry) (HasLabel text label entry)
has_label-decides text label entry =
    let both = both_decide (matches_name entry.name text) (shares_label entry.label (Some label)) (Matches entry.name text) (entry.label ≡ Some label) (walk_decides_match entry.name text) (shares_label-decides entry.label label) in
    (λ e. let parts = both.0 e in record { matching = parts.0; same = parts.1 }, λ has. both.1 (has.matching, has.same))

begins_later-decides : (text : List ℕ) (entry : Entry) → IsName entry.name → Decides (begins_later text entry) (BeginsLater text entry)
begins_later-decides text entry named =
    let both = both_decide (goes_on_from entry.name text) (entry.priority == 1) (GoesOn entry.name text) (entry.priority ≡ 1) (going_on entry.name text (name_means entry.name named)) (eqb-true entry.priority 1, eq-eqb entry.priority 1) in
    (λ e. let parts = both.0 e in record { going_on = parts.0; first = parts.1 }, λ later. both.1 (later.going_on, later.first))

-- ---- the laws

-- the found entry is the least one with the priority
pub found_entry-least : (plan : PlanOf) (order text : List ℕ) (priority : ℕ) → MatchOption (found_entry plan order text priority) (NoneAsked (HasPriority text priority) plan order) (IsFound plan order text priority)
unfolding found_entry
found_entry-least plan order text priority =
    by (found_by plan (has_priority text priority) order)
    (found_least plan (has_priority text priority) (HasPriority text priority) (λ id entry there. has_priority-decides text priority entry) order)
  where
    by : (o : Option EntryId) → MatchOption o (NoneAsked (HasPriority text priority) plan order) (SomeLeast plan order (HasPriority text priority)) → MatchOption o (NoneAsked (HasPriority text priority) plan order) (IsFound plan order text priority)
    by None none = none
    by (Some id) found = record { place = found.place; entry = found.entry; least = found.least }

-- the found priority is that of the least entry with the label
pub found_label-least : (plan : PlanOf) (order text label : List ℕ) → MatchOption (found_label plan order text label) (NoneAsked (HasLabel text label) plan order) (IsFoundLabel plan order text label)
unfolding found_label
found_label-least plan order text label =
    by (found_by plan (has_label text label) order)
    (found_least plan (has_label text label) (HasLabel text label) (λ id entry there. has_label-decides text label entry) order)
  where
    by : (o : Option EntryId) → MatchOption o (NoneAsked (HasLabel text label) plan order) (SomeLeast plan order (HasLabel text label)) → MatchOption (option_and_then (priority_at plan) o) (NoneAsked (HasLabel text label) plan order) (IsFoundLabel plan order text label)
    by None none = none
    by (Some id) found =
        let there : priority_at plan id ≡ Some found.entry.priority = ap (option_map (λ (entry : Entry). entry.priority)) found.least.stands.there in
        subst (λ (o : Option ℕ). MatchOption o (NoneAsked (HasLabel text label) plan order) (IsFoundLabel plan order text label)) (sym there)
        (record { place = found.place; id = id; entry = found.entry; least = found.least; lowest = found.lowest; same = refl })

-- the name of the entry with these numbers is the meaning of some text
named_at : (plan : PlanOf) → All (λ (context : PlanContext). AreNamed context.entries) plan.contexts → (id : EntryId) (entry : Entry) → entry_at plan id ≡ Some entry → IsName entry.name
named_at plan named id entry there = by (slice_get plan.contexts id.context) refl there
  where
    by : (o : Option PlanContext) → slice_get plan.contexts id.context ≡ o → option_and_then (λ (context : PlanContext). slice_get context.entries id.entry) o ≡ Some entry → IsName entry.name
    by None known there = absurd (none-some entry there)
    by (Some context) known there =
        let within = slice_get_within plan.contexts id.context context known in
        let names : AreNamed context.entries = subst (λ (c : PlanContext). AreNamed c.entries) (get_or_from_slice_get plan.contexts id.context context context known) (named id.context context within) in
        subst (λ (e : Entry). IsName e.name) (get_or_from_slice_get context.entries id.entry entry entry there) (names id.entry entry (slice_get_within context.entries id.entry entry there))

-- more may be dialled if some entry of priority 1 has a name that goes on
pub goes_on_more-some : (plan : PlanOf) (order text : List ℕ) → All (λ (context : PlanContext). AreNamed context.entries) plan.contexts → IsTrue (goes_on_more plan order text) ↔ SomeGoesOn plan order text
unfolding goes_on_more
goes_on_more-some plan order text named =
    by (found_by plan (begins_later text) order)
    (found_least plan (begins_later text) (BeginsLater text) (λ id entry there. begins_later-decides text entry (named_at plan named id entry there)) order)
  where
    by : (o : Option EntryId) → MatchOption o (NoneAsked (BeginsLater text) plan order) (SomeLeast plan order (BeginsLater text)) → IsTrue (is_some o) ↔ SomeGoesOn plan order text
    by None none = ((λ e. absurd (true≢false (sym e))), λ later. absurd (none later.place later.id later.entry later.stands later.later))
    by (Some id) found =
        ((λ e. record { place = found.place; id = id; entry = found.entry; stands = found.least.stands; later = found.least.asked }), λ later. refl)

-- ---- one answer

-- two least entries are at the same place and have the same name
module _ (plan : PlanOf) (order : List ℕ) (Wanted : Entry → Type 0) (i j : ℕ) (a_id b_id : EntryId) (a b : Entry) (one : IsLeast Wanted plan order i a_id a) (two : IsLeast Wanted plan order j b_id b) where
  one_order_place : i ≡ j
  one_order_place = elim (cases_order i j) [
    | inl same ↦ same
    | inr (inl below) ↦ absurd (two.least i a_id a one.stands one.asked (below_less i j a b below))
    | inr (inr above) ↦ absurd (one.least j b_id b two.stands two.asked (below_less j i b a above))
  ]

  one_name : name_cmp a.name b.name ≡ Equal
  one_name = by (name_cmp a.name b.name) refl
    where
      by : (o : Ordering) → name_cmp a.name b.name ≡ o → o ≡ Equal
      by Less e = absurd (two.least i a_id a one.stands one.asked (same_place i j a b one_order_place ∙ e))
      by Equal e = refl
      by Greater e = absurd (one.least j b_id b two.stands two.asked
          (same_place j i b a (sym one_order_place) ∙ (name_cmp_total.antisymm b.name a.name ∙ ap ordering_reverse e)))

-- two equal entries in a context whose entries are apart are the same
one_id : (plan : PlanOf) → All (λ (context : PlanContext). AreApart context.entries) plan.contexts → (a_id b_id : EntryId) (a b : Entry) → a_id.context ≡ b_id.context → entry_at plan a_id ≡ Some a → entry_at plan b_id ≡ Some b → entry_cmp a b ≡ Equal → a_id ≡ b_id
one_id plan apart a_id b_id a b same at_a at_b tied =
    by (slice_get plan.contexts b_id.context) refl
    (ap (λ n. option_and_then (λ (context : PlanContext). slice_get context.entries a_id.entry) (slice_get plan.contexts n)) (sym same) ∙ at_a) at_b
  where
    by : (o : Option PlanContext) → slice_get plan.contexts b_id.context ≡ o → option_and_then (λ (context : PlanContext). slice_get context.entries a_id.entry) o ≡ Some a → option_and_then (λ (context : PlanContext). slice_get context.entries b_id.entry) o ≡ Some b → a_id ≡ b_id
    by None known at_a at_b = absurd (none-some a at_a)
    by (Some context) known at_a at_b =
        let within = slice_get_within plan.contexts b_id.context context known in
        let here : AreApart context.entries = subst (λ (c : PlanContext). AreApart c.entries) (get_or_from_slice_get plan.contexts b_id.context context context known) (apart b_id.context context within) in
        let numbers = one_place context.entries here a_id.entry b_id.entry a b at_a at_b tied in
        λ i. record { context = same i; entry = numbers i }

-- at most one entry is found, if the entries of each context are apart
pub found_once : (plan : PlanOf) (order text : List ℕ) (priority : ℕ) → All (λ (context : PlanContext). AreApart context.entries) plan.contexts → (a b : EntryId) → IsFound plan order text priority a → IsFound plan order text priority b → a ≡ b
found_once plan order text priority apart a b one two =
    let place = one_order_place plan order (HasPriority text priority) one.place two.place a b one.entry two.entry one.least two.least in
    let name = one_name plan order (HasPriority text priority) one.place two.place a b one.entry two.entry one.least two.least in
    let number : one.entry.priority ≡ two.entry.priority = one.least.asked.same ∙ sym two.least.asked.same in
    one_id plan apart a b one.entry two.entry
    (one_context plan order one.place two.place a b one.entry two.entry one.least.stands two.least.stands place)
    one.least.stands.there two.least.stands.there
    (ap (λ o. ordering_then o (nat_cmp one.entry.priority two.entry.priority)) name
    ∙ sym (nat_cmp_is one.entry.priority two.entry.priority Equal number))

-- at most one priority is found
pub label_once : (plan : PlanOf) (order text label : List ℕ) (a b : ℕ) → IsFoundLabel plan order text label a → IsFoundLabel plan order text label b → a ≡ b
label_once plan order text label a b one two =
    let place = one_order_place plan order (HasLabel text label) one.place two.place one.id two.id one.entry two.entry one.least two.least in
    let name = one_name plan order (HasLabel text label) one.place two.place one.id two.id one.entry two.entry one.least two.least in
    let name_back = name_cmp_total.antisymm two.entry.name one.entry.name ∙ ap ordering_reverse name in
    let two_here : StandsAt plan order one.place two.id two.entry = record { context = ap (slice_get order) place ∙ two.least.stands.context; there = two.least.stands.there } in
    let one_there : StandsAt plan order two.place one.id one.entry = record { context = ap (slice_get order) (sym place) ∙ one.least.stands.context; there = one.least.stands.there } in
    let low = one.lowest two.id two.entry two_here two.least.asked name_back in
    let high = two.lowest one.id one.entry one_there one.least.asked name in
    let same : one.entry.priority ≡ two.entry.priority = omega (arith, low, high) in
    one.same ∙ (same ∙ sym two.same)
