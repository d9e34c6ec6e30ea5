-- In a ranking the entries of one name are next to each other, in the order of their priorities.
use Rattle.std.proofs.Common.{◌≡◌, ℕ, zero, suc, ◌+◌, ◌-◌, ◌<◌, ◌≤◌, Bool, true, false, cond, ◌&&◌, ◌||◌, true≢false, add-zero, List, [], ◌∷◌, length, get_or, Option, Some, None, MatchOption, inl, inr, arith, refl, sym, ap, ◌∙◌, subst, nat_cmp, Ordering, Less, Equal, Greater}
use Rattle.std.specs.Prelude.{slice_get, slice_set, nat_lt, replicate, All}
use Rattle.std.specs.Cmp.Lexicographic.{bytes_decides}
use Rattle.std.specs.List.{list_any, range_with_len}
use Rattle.std.specs.Option.{option_and_then, option_map_or}
use Rattle.std.specs.Ordering.{ordering_then, MatchOrdering}
use Rattle.std.proofs.lemmas.Bool.{cases_eq, cases_order}
use Rattle.std.proofs.lemmas.Bool.Decides.{same_from_decides, Decides-ltb}
use Rattle.std.proofs.lemmas.Cmp.{ranked}
use Rattle.std.proofs.lemmas.List.{get_or-set_same, get_or-set_other, length-set, length-replicate}
use Rattle.std.proofs.lemmas.List.Elements.{All-map}
use Rattle.std.proofs.lemmas.List.FromFn.{length-map-range_with_len, get_or-map-range_with_len, length-range_with_len, get_or-range_with_len}
use Rattle.std.proofs.lemmas.List.Sorted.{All-permutation, Contains-permutation}
use Rattle.std.proofs.lemmas.Option.{slice_get_within, slice_get_read, get_or_from_slice_get, same_Some, none-some}
use Rattle.dp_pattern.specs.Name.{Meaning, IsName, meaning_of}
use Rattle.dp_pattern.specs.Order.{name_cmp}
use Rattle.dp_pattern.specs.Spelling.{spelling}
use Rattle.dp_pattern.proofs.OrderLemmas.{orders_names}
use Rattle.dp_pattern.proofs.SpellingLemmas.{spelled_again}
use Rattle.dp_lookup.specs.FoundEntry.{entries_at}
use Rattle.dp_plan.specs.Contexts.{PlanContext, AreNamed}
use Rattle.dp_plan.specs.Extensions.{same_name}
use Rattle.dp_plan.specs.Lookup.{IsRankedAt}
use Rattle.dp_plan.specs.Plan.{PlanOf}
use Rattle.dp_plan.specs.Ranking.{entry_cmp, ids_of, ranked_entry, IsRanking}
use Rattle.dp_plan.specs.declared.entry.Entry.{Entry}
use Rattle.dp_plan.specs.declared.entry.EntryId.{EntryId}
use Rattle.dp_audit.specs.Findings.{has_greater, has_lower}
use Rattle.dp_audit.specs.steps.Neighbours.{are_of_one_name, is_followed, with_mark, IsAfter, AreAfter, AreMarks}

-- ---- names

-- a spelling is read with one meaning only
pub one_meaning : (a b : Meaning) → IsName a → IsName b → same_name a b ≡ true → a ≡ b
one_meaning a b named_a named_b same =
    let read_a = spelled_again a named_a in
    let read_b = spelled_again b named_b in
    let spelled = ap meaning_of ((bytes_decides (spelling a) (spelling b)).0 same) in
    cc

-- one meaning has one spelling
one_spelling : (a b : Meaning) → a ≡ b → same_name a b ≡ true
one_spelling a b same = (bytes_decides (spelling a) (spelling b)).1 (ap spelling same)

-- of entries of one name, the lesser has the lower priority
lower_from_less : (a b : Entry) → a.name ≡ b.name → entry_cmp a b ≡ Less → a.priority < b.priority
lower_from_less a b named less = by (nat_cmp a.priority b.priority) (sym (ap (λ o. ordering_then o (nat_cmp a.priority b.priority)) tied) ∙ less) (ranked a.priority b.priority (nat_cmp a.priority b.priority) refl)
  where
    tied : name_cmp a.name b.name ≡ Equal
    tied = (orders_names.same a.name b.name).1 named

    by : (o : Ordering) → o ≡ Less → MatchOrdering o (a.priority < b.priority) (a.priority ≡ b.priority) (b.priority < a.priority) → a.priority < b.priority
    by Less e h = h
    by Equal e h = absurd cc
    by Greater e h = absurd cc

-- an entry between two of one name has that name
between : (a b c : Entry) → a.name ≡ c.name → entry_cmp a b ≡ Less → entry_cmp b c ≡ Less → b.name ≡ a.name
between a b c named left right = by (name_cmp a.name b.name) refl left
  where
    not_less : name_cmp a.name c.name ≡ Less → ⊥
    not_less less = let tied = (orders_names.same a.name c.name).1 named in absurd cc

    after : name_cmp a.name b.name ≡ Less → (o : Ordering) → name_cmp b.name c.name ≡ o → ordering_then o (nat_cmp b.priority c.priority) ≡ Less → b.name ≡ a.name
    after less Less e h = absurd (not_less (orders_names.total.trans a.name b.name c.name less e))
    after less Equal e h = (orders_names.same b.name c.name).0 e ∙ sym named
    after less Greater e h = absurd cc

    by : (o : Ordering) → name_cmp a.name b.name ≡ o → ordering_then o (nat_cmp a.priority b.priority) ≡ Less → b.name ≡ a.name
    by Less e h = after e (name_cmp b.name c.name) refl right
    by Equal e h = sym ((orders_names.same a.name b.name).0 e)
    by Greater e h = absurd cc

-- ---- lists

-- some element passes
any_at : {X : Type 0} (test : X → Bool) (xs : List X) (k : ℕ) (x : X) → slice_get xs k ≡ Some x → test x ≡ true → list_any test xs ≡ true
any_at test [] k x there passing = absurd (none-some x there)
any_at test (y ∷ xs) zero x there passing = ap (λ b. b || list_any test xs) (ap test (same_Some y x there) ∙ passing)
any_at test (y ∷ xs) (suc k) x there passing = ap (λ b. test y || b) (any_at test xs k x there passing) ∙ or_true (test y)
  where
    or_true : (b : Bool) → (b || true) ≡ true
    or_true true = refl
    or_true false = refl

-- the element that passes
some_passes : {X : Type 0} (test : X → Bool) (xs : List X) → list_any test xs ≡ true → (k : ℕ) × (x : X) × (slice_get xs k ≡ Some x) × (test x ≡ true)
some_passes test [] any = absurd (true≢false (sym any))
some_passes {X} test (y ∷ xs) any = by (test y) refl any (some_passes test xs)
  where
    by : (b : Bool) → test y ≡ b → (b || list_any test xs) ≡ true → (list_any test xs ≡ true → (k : ℕ) × (x : X) × (slice_get xs k ≡ Some x) × (test x ≡ true))
        → (k : ℕ) × (x : X) × (slice_get (y ∷ xs) k ≡ Some x) × (test x ≡ true)
    by true e any later = (0, y, refl, e)
    by false e any later = let rest = later any in (suc rest.0, rest.1, rest.2, rest.3)

both : (a b : Bool) → (a && b) ≡ true → (a ≡ true) × (b ≡ true)
both true true e = (refl, refl)
both true false e = absurd (true≢false (sym e))
both false b e = absurd (true≢false (sym e))

element_at : {X : Type 0} (xs : List X) (k : ℕ) → k < length xs → (x : X) × (slice_get xs k ≡ Some x)
element_at [] k below = absurd (omega (arith, below))
element_at (x ∷ xs) zero below = (x, refl)
element_at (x ∷ xs) (suc k) below = element_at xs k (omega (arith, below))

not_both : {m n : ℕ} → m < n → n < m → ⊥
not_both less more = omega (arith, less, more)

-- an entry does not have a lower priority than itself
apart : (a b : Entry) → a ≡ b → a.priority < b.priority → ⊥
apart a b same less = let one = ap (λ (e : Entry). e.priority) same in omega (arith, one, less)

-- steps on numbers, by themselves
at_least : (n : ℕ) → n ≤ n
at_least n = omega arith

before_next : (n : ℕ) → n < n + 1
before_next n = omega arith

chain : {i j n : ℕ} → i < j → j < n → i < n
chain less more = omega (arith, less, more)

next_below : {i j n : ℕ} → i < j → j < n → i + 1 < n
next_below less more = omega (arith, less, more)

le_next : {i j : ℕ} → i ≤ j → i ≤ j + 1
le_next le = omega (arith, le)

le_from_less : {i j : ℕ} → i < j → i ≤ j
le_from_less less = omega (arith, less)

next_le : {i j : ℕ} → i < j → i + 1 ≤ j
next_le less = omega (arith, less)

not_past : {i j : ℕ} → i ≤ j → j < i → ⊥
not_past le less = omega (arith, le, less)

le_back : {i j : ℕ} → j < i → j ≤ i - 1
le_back less = omega (arith, less)

less_back : {i j : ℕ} → j < i → i - 1 < i
less_back less = omega (arith, less)

from_next : {i n : ℕ} → i + 1 < n → i < n
from_next less = omega (arith, less)

not_below_zero : {i : ℕ} → i < 0 → ⊥
not_below_zero less = omega (arith, less)

less_next : {i n : ℕ} → i < n → i < n + 1
less_next less = omega (arith, less)

not_between : {i n : ℕ} → i < n + 1 → n < i → ⊥
not_between less more = omega (arith, less, more)

below_size : {i j m n : ℕ} → m ≡ n → i < n → i ≡ j → j < m
below_size size less same = omega (arith, size, less, same)

below_size_self : {i m n : ℕ} → m ≡ n → i < n → i < m
below_size_self size less = omega (arith, size, less)

positive : (n : ℕ) → 0 < suc n
positive n = omega arith

le_pred : {m n : ℕ} → suc m ≤ suc n → m ≤ n
le_pred le = omega (arith, le)

from_zero : (k : ℕ) → 0 + k ≡ k
from_zero k = omega arith

range_below : (n k d : ℕ) → k < length (range_with_len 0 n) → get_or (range_with_len 0 n) k d < n
range_below n k d below =
    let inside : k < n = subst (λ (m : ℕ). k < m) (length-range_with_len 0 n) below in
    subst (λ (m : ℕ). m < n) (sym (get_or-range_with_len 0 n k d inside ∙ from_zero k)) inside

one_back : (i j : ℕ) → j < i → i - 1 + 1 ≡ i
one_back i j below = omega (arith, below)

-- the name of an entry at a place is one that some text means
pub named_at : (entries : List Entry) → AreNamed entries → (k : ℕ) (a : Entry) → slice_get entries k ≡ Some a → IsName a.name
named_at entries named k a there =
    subst (λ (e : Entry). IsName e.name) (get_or_from_slice_get entries k a a there) (named k a (slice_get_within entries k a there))

-- ---- a ranking

abbrev id_at : ℕ → ℕ → EntryId
id_at number k = record { context = number; entry = k }

-- the entry with a ranked number
entry_of_id : (entries : List Entry) (ids : List EntryId) (place : ℕ) (id : EntryId) → slice_get ids place ≡ Some id → ranked_entry entries ids place ≡ slice_get entries id.entry
entry_of_id entries ids place id there = ap (option_and_then (λ (x : EntryId). slice_get entries x.entry)) there

-- the relation of two neighbours of one name
record Neighbours (entries : List Entry) (ids : List EntryId) (place : ℕ) : Type 0 where
  one : Entry
  next : Entry
  at_one : ranked_entry entries ids place ≡ Some one
  at_next : ranked_entry entries ids (place + 1) ≡ Some next
  named : same_name one.name next.name ≡ true

neighbours : (entries : List Entry) (ids : List EntryId) (place : ℕ) → is_followed entries ids place ≡ true → Neighbours entries ids place
neighbours entries ids place followed = by (ranked_entry entries ids place) (ranked_entry entries ids (place + 1)) refl refl followed
  where
    by : (o p : Option Entry) → ranked_entry entries ids place ≡ o → ranked_entry entries ids (place + 1) ≡ p → are_of_one_name o p ≡ true → Neighbours entries ids place
    by None p at_one at_next e = absurd (true≢false (sym e))
    by (Some a) None at_one at_next e = absurd (true≢false (sym e))
    by (Some a) (Some b) at_one at_next e = record { one = a; next = b; at_one = at_one; at_next = at_next; named = e }

-- the number of the entry at a place
number_at : (entries : List Entry) (ids : List EntryId) (place : ℕ) (a : Entry) → ranked_entry entries ids place ≡ Some a → (id : EntryId) × (slice_get ids place ≡ Some id) × (slice_get entries id.entry ≡ Some a)
number_at entries [] place a e = absurd (none-some a e)
number_at entries (id ∷ ids) zero a e = (id, refl, e)
number_at entries (id ∷ ids) (suc place) a e = number_at entries ids place a e

module _ (number : ℕ) (entries : List Entry) (ids : List EntryId) (named : AreNamed entries) (ranking : IsRanking number entries ids) where
  -- each entry has a place in the ranking
  place_of : (k : ℕ) → k < length entries → (place : ℕ) × (slice_get ids place ≡ Some (id_at number k))
  place_of k within =
      let size = length-map-range_with_len (id_at number) 0 (length entries) in
      let here = get_or-map-range_with_len (id_at number) 0 (length entries) k k (id_at number k) within (from_zero k) in
      let held = Contains-permutation (ids_of number entries) ids (id_at number k) ranking.whole (k, below_size_self size within, here) in
      (held.0, slice_get_read ids (length ids) held.0 (id_at number k) refl held.1 (sym held.2))

  -- each place of the ranking has an entry
  ids_within : All (λ (id : EntryId). id.entry < length entries) ids
  ids_within =
      All-permutation (λ (id : EntryId). id.entry < length entries) (ids_of number entries) ids ranking.whole
      (All-map (λ (id : EntryId). id.entry < length entries) (id_at number) (range_with_len 0 (length entries))
      (λ k d below. range_below (length entries) k d below))

  -- each place of the ranking has an entry
  entry_at_place : (place : ℕ) → place < length ids → (a : Entry) × (ranked_entry entries ids place ≡ Some a)
  entry_at_place place below =
      let id = element_at ids place below in
      let inside : id.0.entry < length entries = subst (λ (x : EntryId). x.entry < length entries) (get_or_from_slice_get ids place id.0 id.0 id.1) (ids_within place id.0 below) in
      let entry = element_at entries id.0.entry inside in
      (entry.0, entry_of_id entries ids place id.0 id.1 ∙ entry.1)

  -- the place of an entry in the ranking
  ranked_of : (k : ℕ) (a : Entry) → slice_get entries k ≡ Some a → (place : ℕ) × (slice_get ids place ≡ Some (id_at number k)) × (ranked_entry entries ids place ≡ Some a)
  ranked_of k a known =
      let place = place_of k (slice_get_within entries k a known) in
      (place.0, place.1, entry_of_id entries ids place.0 (id_at number k) place.1 ∙ known)

  -- between two entries of one name each has that name
  name_within : (i q j : ℕ) (a b c : Entry) → i ≤ q → q ≤ j → ranked_entry entries ids i ≡ Some a → ranked_entry entries ids q ≡ Some b → ranked_entry entries ids j ≡ Some c → a.name ≡ c.name → b.name ≡ a.name
  name_within i q j a b c from until at_i at_q at_j one = elim (cases_order i q) [
    | inl first ↦ ap (λ (e : Entry). e.name) (same_Some b a (sym at_q ∙ (ap (ranked_entry entries ids) (sym first) ∙ at_i)))
    | inr (inl above) ↦ elim (cases_order q j) [
      | inl last ↦ ap (λ (e : Entry). e.name) (same_Some b c (sym at_q ∙ (ap (ranked_entry entries ids) last ∙ at_j))) ∙ sym one
      | inr (inl below) ↦ between a b c one (ranking.rising i q a b above at_i at_q) (ranking.rising q j b c below at_q at_j)
      | inr (inr past) ↦ absurd (not_past until past)
    ]
    | inr (inr past) ↦ absurd (not_past from past)
  ]

  -- between two entries of one name each is followed by one of that name
  followed_within : (i q j : ℕ) (a c : Entry) → i ≤ q → q < j → ranked_entry entries ids i ≡ Some a → ranked_entry entries ids j ≡ Some c → a.name ≡ c.name → is_followed entries ids q ≡ true
  followed_within i q j a c from below at_i at_j one =
      let last = number_at entries ids j c at_j in
      let inside : j < length ids = slice_get_within ids j last.0 last.1 in
      let here = entry_at_place q (chain below inside) in
      let next = entry_at_place (q + 1) (next_below below inside) in
      let here_named = name_within i q j a here.0 c from (le_from_less below) at_i here.1 at_j one in
      let next_named = name_within i (q + 1) j a next.0 c (le_next from) (next_le below) at_i next.1 at_j one in
      (λ i. are_of_one_name (here.1 i) (next.1 i)) ∙ one_spelling here.0.name next.0.name (here_named ∙ sym next_named)

  -- two neighbours of one name have one meaning, and rising priorities
  rising_neighbours : (place : ℕ) → (n : Neighbours entries ids place) → (n.one.name ≡ n.next.name) × (n.one.priority < n.next.priority)
  rising_neighbours place n =
      let one = number_at entries ids place n.one n.at_one in
      let next = number_at entries ids (place + 1) n.next n.at_next in
      let meaning = one_meaning n.one.name n.next.name (named_at entries named one.0.entry n.one one.2) (named_at entries named next.0.entry n.next next.2) n.named in
      (meaning, lower_from_less n.one n.next meaning (ranking.rising place (place + 1) n.one n.next (before_next place) n.at_one n.at_next))

  -- ---- a greater priority

  greater_there : (k : ℕ) (a : Entry) → slice_get entries k ≡ Some a → IsAfter entries ids 0 (length ids) k → has_greater entries a ≡ true
  greater_there k a known h =
      let n = neighbours entries ids h.place h.followed in
      let there : slice_get ids h.place ≡ Some h.id = ap (slice_get ids) (sym (add-zero h.place)) ∙ h.there in
      let is_one : n.one ≡ a = same_Some n.one a (sym n.at_one ∙ (entry_of_id entries ids h.place h.id there ∙ (ap (slice_get entries) h.same ∙ known))) in
      let rising = rising_neighbours h.place n in
      let next = number_at entries ids (h.place + 1) n.next n.at_next in
      let spelled = one_spelling n.next.name n.one.name (sym rising.0) in
      let lower = (Decides-ltb n.one.priority n.next.priority).1 rising.1 in
      subst (λ (e : Entry). has_greater entries e ≡ true) is_one
      (any_at (λ (other : Entry). same_name other.name n.one.name && nat_lt n.one.priority other.priority) entries next.0.entry n.next next.2 (λ i. spelled i && lower i))

  greater_place : (k : ℕ) (a : Entry) → slice_get entries k ≡ Some a → has_greater entries a ≡ true → (place : ℕ) × (is_followed entries ids place ≡ true) × (slice_get ids place ≡ Some (id_at number k))
  greater_place k a known has =
      let other = some_passes (λ (other : Entry). same_name other.name a.name && nat_lt a.priority other.priority) entries has in
      let parts = both (same_name other.1.name a.name) (nat_lt a.priority other.1.priority) other.3 in
      let one = one_meaning other.1.name a.name (named_at entries named other.0 other.1 other.2) (named_at entries named k a known) parts.0 in
      let below : a.priority < other.1.priority = (Decides-ltb a.priority other.1.priority).0 parts.1 in
      let i = ranked_of k a known in
      let j = ranked_of other.0 other.1 other.2 in
      elim (cases_order i.0 j.0) [
        | inl same ↦ absurd (apart a other.1 (same_Some a other.1 (sym i.2 ∙ (ap (ranked_entry entries ids) same ∙ j.2))) below)
        | inr (inl before) ↦ (i.0, followed_within i.0 i.0 j.0 a other.1 (at_least i.0) before i.2 j.2 (sym one), i.1)
        | inr (inr after) ↦ absurd (not_both (lower_from_less other.1 a one (ranking.rising j.0 i.0 other.1 a after j.2 i.2)) below)
      ]

  -- the marks of entries that are followed by one of their name are the marks of those with one of a greater priority
  pub greater_marked : (marks : List Bool) → AreAfter entries ids 0 (length ids) marks → AreMarks (has_greater entries) entries marks
  greater_marked marks are k a known =
      let found = λ (has : has_greater entries a ≡ true).
      (let place = greater_place k a known has in
      are.all place.0 (id_at number k) (slice_get_within ids place.0 (id_at number k) place.2) place.1 (ap (slice_get ids) (add-zero place.0) ∙ place.2) (slice_get_within entries k a known)) in
      same_from_decides (get_or marks k false) (has_greater entries a) (λ e. greater_there k a known (are.marked k e), found) (λ e. e, λ e. e)

  -- ---- a lower priority

  lower_there : (k : ℕ) (a : Entry) → slice_get entries k ≡ Some a → IsAfter entries ids 1 (length ids) k → has_lower entries a ≡ true
  lower_there k a known h =
      let n = neighbours entries ids h.place h.followed in
      let is_next : n.next ≡ a = same_Some n.next a (sym n.at_next ∙ (entry_of_id entries ids (h.place + 1) h.id h.there ∙ (ap (slice_get entries) h.same ∙ known))) in
      let rising = rising_neighbours h.place n in
      let one = number_at entries ids h.place n.one n.at_one in
      let spelled = one_spelling n.one.name n.next.name rising.0 in
      let lower = (Decides-ltb n.one.priority n.next.priority).1 rising.1 in
      subst (λ (e : Entry). has_lower entries e ≡ true) is_next
      (any_at (λ (other : Entry). same_name other.name n.next.name && nat_lt other.priority n.next.priority) entries one.0.entry n.one one.2 (λ i. spelled i && lower i))

  lower_place : (k : ℕ) (a : Entry) → slice_get entries k ≡ Some a → has_lower entries a ≡ true → (place : ℕ) × (is_followed entries ids place ≡ true) × (slice_get ids (place + 1) ≡ Some (id_at number k))
  lower_place k a known has =
      let other = some_passes (λ (other : Entry). same_name other.name a.name && nat_lt other.priority a.priority) entries has in
      let parts = both (same_name other.1.name a.name) (nat_lt other.1.priority a.priority) other.3 in
      let one = one_meaning other.1.name a.name (named_at entries named other.0 other.1 other.2) (named_at entries named k a known) parts.0 in
      let below : other.1.priority < a.priority = (Decides-ltb other.1.priority a.priority).0 parts.1 in
      let i = ranked_of k a known in
      let j = ranked_of other.0 other.1 other.2 in
      elim (cases_order j.0 i.0) [
        | inl same ↦ absurd (apart other.1 a (same_Some other.1 a (sym j.2 ∙ (ap (ranked_entry entries ids) same ∙ i.2))) below)
        | inr (inl before) ↦ (i.0 - 1, followed_within j.0 (i.0 - 1) i.0 other.1 a (le_back before) (less_back before) j.2 i.2 one, ap (slice_get ids) (one_back i.0 j.0 before) ∙ i.1)
        | inr (inr after) ↦ absurd (not_both (lower_from_less a other.1 (sym one) (ranking.rising i.0 j.0 a other.1 after i.2 j.2)) below)
      ]

  -- the marks of entries after one of their name are the marks of those with one of a lower priority
  pub lower_marked : (marks : List Bool) → AreAfter entries ids 1 (length ids) marks → AreMarks (has_lower entries) entries marks
  lower_marked marks are k a known =
      let found = λ (has : has_lower entries a ≡ true).
      (let place = lower_place k a known has in
      let inside = slice_get_within ids (place.0 + 1) (id_at number k) place.2 in
      are.all place.0 (id_at number k) (from_next inside) place.1 place.2 (slice_get_within entries k a known)) in
      same_from_decides (get_or marks k false) (has_lower entries a) (λ e. lower_there k a known (are.marked k e), found) (λ e. e, λ e. e)

-- ---- the entries of the context with a number

pub ranked_at_named : (plan : PlanOf) → All (λ (c : PlanContext). AreNamed c.entries) plan.contexts → (number : ℕ) (context : PlanContext) → slice_get plan.contexts number ≡ Some context → AreNamed context.entries
ranked_at_named plan named number context known =
    subst (λ (c : PlanContext). AreNamed c.entries) (get_or_from_slice_get plan.contexts number context context known) (named number context (slice_get_within plan.contexts number context known))

-- the marks of a context that are found through its ranking
pub greater_at : (plan : PlanOf) (number : ℕ) (ids : List EntryId) (marks : List Bool) → All (λ (c : PlanContext). AreNamed c.entries) plan.contexts → IsRankedAt plan number ids
    → AreAfter (entries_at plan number) ids 0 (length ids) marks → AreMarks (has_greater (entries_at plan number)) (entries_at plan number) marks
greater_at plan number ids marks named ranking are = by (slice_get plan.contexts number) refl ranking are
  where
    by : (o : Option PlanContext) → slice_get plan.contexts number ≡ o → MatchOption o (ids ≡ []) (λ (c : PlanContext). IsRanking number c.entries ids)
        → AreAfter (option_map_or (λ (c : PlanContext). c.entries) o []) ids 0 (length ids) marks
        → AreMarks (has_greater (option_map_or (λ (c : PlanContext). c.entries) o [])) (option_map_or (λ (c : PlanContext). c.entries) o []) marks
    by None known ranking are = λ k a there. absurd (none-some a there)
    by (Some context) known ranking are = greater_marked number context.entries ids (ranked_at_named plan named number context known) ranking marks are

pub lower_at : (plan : PlanOf) (number : ℕ) (ids : List EntryId) (marks : List Bool) → All (λ (c : PlanContext). AreNamed c.entries) plan.contexts → IsRankedAt plan number ids
    → AreAfter (entries_at plan number) ids 1 (length ids) marks → AreMarks (has_lower (entries_at plan number)) (entries_at plan number) marks
lower_at plan number ids marks named ranking are = by (slice_get plan.contexts number) refl ranking are
  where
    by : (o : Option PlanContext) → slice_get plan.contexts number ≡ o → MatchOption o (ids ≡ []) (λ (c : PlanContext). IsRanking number c.entries ids)
        → AreAfter (option_map_or (λ (c : PlanContext). c.entries) o []) ids 1 (length ids) marks
        → AreMarks (has_lower (option_map_or (λ (c : PlanContext). c.entries) o [])) (option_map_or (λ (c : PlanContext). c.entries) o []) marks
    by None known ranking are = λ k a there. absurd (none-some a there)
    by (Some context) known ranking are = lower_marked number context.entries ids (ranked_at_named plan named number context known) ranking marks are

-- ---- one more place

-- past the end nothing is set
pub set_past : (marks : List Bool) (i : ℕ) → length marks ≤ i → slice_set marks i true ≡ marks
set_past [] i past = refl
set_past (x ∷ marks) zero past = absurd (not_past past (positive (length marks)))
set_past (x ∷ marks) (suc i) past = ap (λ (l : List Bool). x ∷ l) (set_past marks i (le_pred past))

-- no entry is marked yet
pub AreAfter-none : (entries : List Entry) (ids : List EntryId) (shift : ℕ) (marks : List Bool) → marks ≡ replicate (length entries) false → AreAfter entries ids shift 0 marks
AreAfter-none entries ids shift marks none = record {
  size = ap length none ∙ length-replicate (length entries) false;
  marked = λ number e. absurd (true≢false (sym e ∙ (ap (λ (l : List Bool). get_or l number false) none ∙ none_marked (length entries) number)));
  all = λ place id below followed there inside. absurd (not_below_zero below);
}
  where
    none_marked : (n k : ℕ) → get_or (replicate n false) k false ≡ false
    none_marked zero k = refl
    none_marked (suc n) zero = refl
    none_marked (suc n) (suc k) = none_marked n k

-- with the mark of one more place
pub AreAfter-more : (entries : List Entry) (ids : List EntryId) (shift n : ℕ) (marks : List Bool) → AreAfter entries ids shift n marks
    → AreAfter entries ids shift (n + 1) (cond (is_followed entries ids n) (with_mark ids (n + shift) marks) marks)
AreAfter-more entries ids shift n marks are = by (is_followed entries ids n) refl (slice_get ids (n + shift)) refl
  where
    wider : (k : ℕ) → IsAfter entries ids shift n k → IsAfter entries ids shift (n + 1) k
    wider k h = record { place = h.place; id = h.id; below = less_next h.below; followed = h.followed; there = h.there; same = h.same }

    kept : (id : EntryId) (k : ℕ) → k < length entries → get_or marks k false ≡ true → get_or (slice_set marks id.entry true) k false ≡ true
    kept id k inside e = elim (cases_eq k id.entry) [
      | inl same ↦ ap (λ x. get_or (slice_set marks id.entry true) x false) same ∙ get_or-set_same marks id.entry true false (below_size are.size inside same)
      | inr other ↦ get_or-set_other marks id.entry k true false other ∙ e
    ]

    last : (id : EntryId) → slice_get ids (n + shift) ≡ Some id → (other : EntryId) → slice_get ids (n + shift) ≡ Some other → other.entry < length entries → get_or (slice_set marks id.entry true) other.entry false ≡ true
    last id there other also inside =
        let same : other.entry ≡ id.entry = ap (λ (x : EntryId). x.entry) (same_Some other id (sym also ∙ there)) in
        ap (λ x. get_or (slice_set marks id.entry true) x false) same ∙ get_or-set_same marks id.entry true false (below_size are.size inside same)

    -- the places up to this one are those before it and itself
    upto : (P : ℕ → Type 0) → ((place : ℕ) → place < n → P place) → P n → (place : ℕ) → place < n + 1 → P place
    upto P before here place below = elim (cases_order place n) [
      | inl same ↦ subst P (sym same) here
      | inr (inl less) ↦ before place less
      | inr (inr more) ↦ absurd (not_between below more)
    ]

    by : (b : Bool) → is_followed entries ids n ≡ b → (o : Option EntryId) → slice_get ids (n + shift) ≡ o
        → AreAfter entries ids shift (n + 1) (cond b (option_map_or (λ id. slice_set marks id.entry true) o marks) marks)
    by true e (Some id) there = record {
      size = length-set marks id.entry true ∙ are.size;
      marked = λ k marked. elim (cases_eq k id.entry) [
        | inl same ↦ record { place = n; id = id; below = before_next n; followed = e; there = there; same = sym same }
        | inr other ↦ wider k (are.marked k (sym (get_or-set_other marks id.entry k true false other) ∙ marked))
      ];
      all = λ place other below. upto (λ place. (other : EntryId) → is_followed entries ids place ≡ true → slice_get ids (place + shift) ≡ Some other → other.entry < length entries → get_or (slice_set marks id.entry true) other.entry false ≡ true)
          (λ place less other followed also inside. kept id other.entry inside (are.all place other less followed also inside))
          (λ other followed also inside. last id there other also inside) place below other;
    }
    by true e None there = record {
      size = are.size;
      marked = λ k marked. wider k (are.marked k marked);
      all = λ place other below. upto (λ place. (other : EntryId) → is_followed entries ids place ≡ true → slice_get ids (place + shift) ≡ Some other → other.entry < length entries → get_or marks other.entry false ≡ true)
          (λ place less other followed also inside. are.all place other less followed also inside)
          (λ other followed also inside. absurd (none-some other (sym there ∙ also))) place below other;
    }
    by false e o there = record {
      size = are.size;
      marked = λ k marked. wider k (are.marked k marked);
      all = λ place other below. upto (λ place. (other : EntryId) → is_followed entries ids place ≡ true → slice_get ids (place + shift) ≡ Some other → other.entry < length entries → get_or marks other.entry false ≡ true)
          (λ place less other followed also inside. are.all place other less followed also inside)
          (λ other followed also inside. absurd (true≢false (sym followed ∙ e))) place below other;
    }
