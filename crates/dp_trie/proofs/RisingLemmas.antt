-- Ordered lists: their parts, and what is found in them.
use Rattle.std.proofs.Common.{◌≡◌, ℕ, zero, suc, ◌<◌, Bool, true, false, cond, List, [], ◌∷◌, ◌++◌, map, take, get_or, Some, None, inl, inr, arith, refl, sym, ap, subst, ◌∙◌, Ordering, Less, nat_cmp, ◌==◌}
use Rattle.std.specs.Prelude.{slice_get, slice_range, nat_lt}
use Rattle.std.specs.List.{AllByRecursion, find}
use Rattle.std.specs.Ordering.{ordering_then}
use Rattle.std.specs.List.Sorted.{IsStrictlySortedBy, IsPartitionPoint, IsPartitionedBy}
use Rattle.std.proofs.lemmas.Bool.{eq-eqb, ne_eqb, ltb-true, ltb-false, lt-ltb, cases_order}
use Rattle.std.proofs.lemmas.Cmp.{ranked, tied_itself}
use Rattle.std.proofs.lemmas.Option.{same_Some, slice_get_within, slice_get-get_or}
use Rattle.dp_pattern.specs.Name.{Meaning, Pattern}
use Rattle.dp_pattern.specs.Order.{name_cmp}
use Rattle.dp_pattern.proofs.OrderLemmas.{name_cmp_total}
use Rattle.dp_trie.specs.Asked.{Rise}
use Rattle.dp_trie.specs.steps.Ranked.{known_cmp, AreInOrder}
use Rattle.dp_trie.specs.Tree.{known_held, own, path_after, known_from, Rises}
use Rattle.dp_trie.specs.declared.node.HeldEntry.{HeldEntry}
use Rattle.dp_trie.specs.declared.node.Node.{Node}
use Rattle.dp_trie.specs.declared.node.Step.{Step}
use Rattle.dp_trie.specs.declared.node.Step.TheVariants.{Class, Leaf}
use Rattle.dp_trie.proofs.BuildLemmas.{all-at, by_places}

-- ---- an order

-- of two elements the first is below the second
pub sorted-at : {K : Type 0} (c : K → K → Ordering) (xs : List K) → IsStrictlySortedBy c xs → (i j : ℕ) (x y : K) → i < j → slice_get xs i ≡ Some x → slice_get xs j ≡ Some y → c x y ≡ Less
unfolding IsStrictlySortedBy
sorted-at c [] sorted i j x y before at_i at_j = absurd cc
sorted-at c (z ∷ xs) sorted zero zero x y before at_i at_j = absurd (omega (arith, before))
sorted-at c (z ∷ xs) sorted zero (suc j) x y before at_i at_j =
    let same : z ≡ x = same_Some z x at_i in
    subst (λ k. c k y ≡ Less) same (all-at (λ w. c z w ≡ Less) xs j y sorted.0 at_j)
sorted-at c (z ∷ xs) sorted (suc i) zero x y before at_i at_j = absurd (omega (arith, before))
sorted-at c (z ∷ xs) sorted (suc i) (suc j) x y before at_i at_j = sorted-at c xs sorted.1 i j x y (omega (arith, before)) at_i at_j

pub cmp-less : (a b : ℕ) → nat_cmp a b ≡ Less → a < b
cmp-less a b e = ranked a b Less (sym e)

-- ---- parts of an order

pub all-left : {K : Type 0} (P : K → Type 0) (xs ys : List K) → AllByRecursion P (xs ++ ys) → AllByRecursion P xs
all-left P [] ys each = tt
all-left P (x ∷ xs) ys each = (each.0, all-left P xs ys each.1)

pub all-right : {K : Type 0} (P : K → Type 0) (xs ys : List K) → AllByRecursion P (xs ++ ys) → AllByRecursion P ys
all-right P [] ys each = each
all-right P (x ∷ xs) ys each = all-right P xs ys each.1

pub sorted-left : {K : Type 0} (c : K → K → Ordering) (xs ys : List K) → IsStrictlySortedBy c (xs ++ ys) → IsStrictlySortedBy c xs
unfolding IsStrictlySortedBy
sorted-left c [] ys sorted = tt
sorted-left c (x ∷ xs) ys sorted = (all-left (λ y. c x y ≡ Less) xs ys sorted.0, sorted-left c xs ys sorted.1)

pub sorted-right : {K : Type 0} (c : K → K → Ordering) (xs ys : List K) → IsStrictlySortedBy c (xs ++ ys) → IsStrictlySortedBy c ys
unfolding IsStrictlySortedBy
sorted-right c [] ys sorted = sorted
sorted-right c (x ∷ xs) ys sorted = sorted-right c xs ys sorted.1

-- an element of the first part is below all of the second
pub sorted-across : {K : Type 0} (c : K → K → Ordering) (xs ys : List K) (i : ℕ) (x : K) → IsStrictlySortedBy c (xs ++ ys) → slice_get xs i ≡ Some x → AllByRecursion (λ y. c x y ≡ Less) ys
unfolding IsStrictlySortedBy
sorted-across c [] ys i x sorted here = absurd cc
sorted-across c (z ∷ xs) ys zero x sorted here =
    let same : z ≡ x = same_Some z x here in
    all-right (λ y. c x y ≡ Less) xs ys (subst (λ k. AllByRecursion (λ y. c k y ≡ Less) (xs ++ ys)) same sorted.0)
sorted-across c (z ∷ xs) ys (suc i) x sorted here = sorted-across c xs ys i x sorted.1 here

-- a list that is in order at each place is in order
pub sorted-places : {K : Type 0} (c : K → K → Ordering) (xs : List K) → ((i j : ℕ) (x y : K) → i < j → slice_get xs i ≡ Some x → slice_get xs j ≡ Some y → c x y ≡ Less) → IsStrictlySortedBy c xs
unfolding IsStrictlySortedBy
sorted-places c [] each = tt
sorted-places c (x ∷ xs) each =
    (by_places (λ y. c x y ≡ Less) xs (λ k y here. each 0 (suc k) x y (omega arith) refl here), sorted-places c xs (λ i j a b before at_i at_j. each (suc i) (suc j) a b (omega (arith, before)) at_i at_j))

-- ---- entries of one name

of_one_name : (m : Meaning) (o : Ordering) → ordering_then (name_cmp m m) o ≡ Less → o ≡ Less
of_one_name m o less = ap (λ n. ordering_then n o) (sym (tied_itself name_cmp_total m)) ∙ less

-- if they are in order, so are their priorities
pub held-rise : (m : Meaning) (held : List HeldEntry) → AreInOrder (map (known_held m) held) → Rise held
unfolding IsStrictlySortedBy
held-rise m [] sorted = tt
held-rise m (h ∷ held) sorted = (each held sorted.0, held-rise m held sorted.1)
  where
    each : (held : List HeldEntry) → AllByRecursion (λ y. known_cmp (known_held m h) y ≡ Less) (map (known_held m) held) → AllByRecursion (λ (y : HeldEntry). nat_cmp h.priority y.priority ≡ Less) held
    each [] all = tt
    each (k ∷ held) all = (of_one_name m (nat_cmp h.priority k.priority) all.0, each held all.1)

-- ---- priorities

rise-at : (held : List HeldEntry) → Rise held → (i j : ℕ) (a b : HeldEntry) → i < j → slice_get held i ≡ Some a → slice_get held j ≡ Some b → a.priority < b.priority
rise-at held rise i j a b before at_i at_j = cmp-less a.priority b.priority (sorted-at (λ (x y : HeldEntry). nat_cmp x.priority y.priority) held rise i j a b before at_i at_j)

-- an entry with a priority is the first that has it
pub found-at : (held : List HeldEntry) (i : ℕ) (one : HeldEntry) (t : ℕ) → Rise held → slice_get held i ≡ Some one → one.priority ≡ t → find (λ (h : HeldEntry). h.priority == t) held ≡ Some one
unfolding IsStrictlySortedBy
found-at [] i one t rise here is = absurd cc
found-at (h ∷ held) zero one t rise here is =
    let same : h ≡ one = same_Some h one here in
    ap (λ b. cond b (Some h) (find (λ (h : HeldEntry). h.priority == t) held)) (eq-eqb h.priority t (ap (λ (x : HeldEntry). x.priority) same ∙ is)) ∙ ap Some same
found-at (h ∷ held) (suc i) one t rise here is =
    let less = rise-at (h ∷ held) rise 0 (suc i) h one (omega arith) refl here in
    ap (λ b. cond b (Some h) (find (λ (h : HeldEntry). h.priority == t) held)) (ne_eqb h.priority t (λ e. omega (arith, e, is, less)))
    ∙ found-at held i one t rise.1 here is

find-nothing : (test : HeldEntry → Bool) (held : List HeldEntry) → ((i : ℕ) (one : HeldEntry) → slice_get held i ≡ Some one → test one ≡ false) → find test held ≡ None
find-nothing test [] none = refl
find-nothing test (h ∷ held) none =
    ap (λ b. cond b (Some h) (find test held)) (none 0 h refl) ∙ find-nothing test held (λ i one here. none (suc i) one here)

-- none has the priority if the first that is not below it has another, or does not exist
pub found-none : (held : List HeldEntry) (i t : ℕ) → Rise held → IsPartitionPoint (λ (h : HeldEntry). nat_lt h.priority t ≡ true) (λ (h : HeldEntry). nat_lt h.priority t ≡ false) held i → ((one : HeldEntry) → slice_get held i ≡ Some one → one.priority ≡ t → ⊥) → find (λ (h : HeldEntry). h.priority == t) held ≡ None
found-none held i t rise point other = find-nothing (λ (h : HeldEntry). h.priority == t) held (λ k one here. ne_eqb one.priority t (apart k one here))
  where
    get : (k : ℕ) (one : HeldEntry) → slice_get held k ≡ Some one → get_or held k one ≡ one
    get k one here = (let inside = slice_get_within held k one here in same_Some (get_or held k one) one (sym (slice_get-get_or held k one inside) ∙ here))

    apart : (k : ℕ) (one : HeldEntry) → slice_get held k ≡ Some one → one.priority ≡ t → ⊥
    apart k one here is = elim (cases_order k i) [
      | inl same ↦ other one (ap (slice_get held) (sym same) ∙ here) is
      | inr (inl before) ↦
          let below = point.0 k one (omega arith) before in
          let less = ltb-true one.priority t (ap (λ (h : HeldEntry). nat_lt h.priority t) (sym (get k one here)) ∙ below) in
          omega (arith, less, is)
      | inr (inr after) ↦
          let inside = slice_get_within held k one here in
          let first = slice_get-get_or held i one (omega (arith, after, inside)) in
          let least = ltb-false (get_or held i one).priority t (point.1 i one (omega arith) (omega (arith, after, inside))) in
          let less = rise-at held rise i k (get_or held i one) one after first here in
          omega (arith, least, less, is)
    ]

-- the priorities below another come first
pub priorities-parted : (held : List HeldEntry) (t : ℕ) → Rise held → IsPartitionedBy (λ (h : HeldEntry). nat_lt h.priority t) held
priorities-parted held t rise i j d few within below = elim (cases_order i j) [
  | inl same ↦ ap (λ k. nat_lt (get_or held k d).priority t) same ∙ below
  | inr (inl before) ↦
      let at_i = slice_get-get_or held i d (omega (arith, before, within)) in
      let at_j = slice_get-get_or held j d within in
      let less = rise-at held rise i j (get_or held i d) (get_or held j d) before at_i at_j in
      let under = ltb-true (get_or held j d).priority t below in
      lt-ltb (get_or held i d).priority t (omega (arith, less, under))
  | inr (inr after) ↦ absurd (omega (arith, few, after))
]

-- ---- the leaves of a tree

-- what the leaves have is in order if all entries are
pub tree-rise : (held : List HeldEntry) (nodes : List Node) (path : List (List ℕ)) → AreInOrder (known_from held path nodes) → (place : ℕ) (node : Node) → slice_get nodes place ≡ Some node → Rises held node.step
tree-rise held [] path sorted place node here = absurd cc
tree-rise held (n ∷ nodes) path sorted zero node here =
    let same : n ≡ node = same_Some n node here in
    subst (λ (k : Node). Rises held k.step) same
    (own_rise n.step (sorted-left known_cmp (own held (take n.depth path) n.step) (known_from held (path_after path n) nodes) sorted))
  where
    own_rise : (step : Step) → AreInOrder (own held (take n.depth path) step) → Rises held step
    own_rise (Class class) order = tt
    own_rise (Leaf leaf) order = held-rise (Pattern (take n.depth path) leaf.tail) (slice_range held leaf.from leaf.until) order
tree-rise held (n ∷ nodes) path sorted (suc place) node here =
    tree-rise held nodes (path_after path n) (sorted-right known_cmp (own held (take n.depth path) n.step) (known_from held (path_after path n) nodes) sorted) place node here
