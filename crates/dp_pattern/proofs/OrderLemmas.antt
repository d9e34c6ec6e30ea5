-- The laws of the order of names.
use Rattle.std.proofs.Common.{◌≡◌, ℕ, zero, suc, ◌<◌, ◌≤◌, drop, arith, is_eq, Decides, true≢false, List, [], ◌∷◌, length, refl, sym, ap, ◌∙◌, subst, nat_cmp, Ordering, Less, Equal, Greater}
use Rattle.std.specs.Ordering.{ordering_then, on, MatchOrdering}
use Rattle.std.specs.Cmp.{IsTotalOrder}
use Rattle.std.specs.Cmp.Lexicographic.{slice_cmp}
use Rattle.std.proofs.lemmas.Cmp.{nat_list_cmp_total, lists_total, on_total, then_total, nat_cmp_total, tied_itself, ranked}
use Rattle.dp_pattern.specs.Name.{Meaning, Plain, Pattern}
use Rattle.dp_pattern.specs.Order.{class_cmp, tail_cmp, tail_cmp_class, class_cmp_tail, pattern_cmp, name_cmp, OrdersNames}
use Rattle.dp_pattern.specs.declared.tail.Tail.{Tail}
use Rattle.dp_pattern.specs.declared.tail.Tail.TheVariants.{End, Dot, Bang}

-- A name as lists of numbers in the same order: a class is 1, its size and its members; the wildcards are 2 and 3; and the end is the end
-- of the list.
abbrev tail_key : Tail → List (List ℕ)
tail_key End = []
tail_key Dot = (2 ∷ []) ∷ []
tail_key Bang = (3 ∷ []) ∷ []

abbrev pattern_key : List (List ℕ) → Tail → List (List ℕ)
pattern_key [] tail = tail_key tail
pattern_key (c ∷ cs) tail = (1 ∷ length c ∷ c) ∷ pattern_key cs tail

abbrev name_key : Meaning → List (List ℕ)
name_key (Plain text) = (0 ∷ text) ∷ []
name_key (Pattern cs tail) = (1 ∷ []) ∷ pattern_key cs tail

abbrev keys_cmp : List (List ℕ) → List (List ℕ) → Ordering
keys_cmp = slice_cmp (slice_cmp nat_cmp)

then-Equal : (o : Ordering) → ordering_then o Equal ≡ o
then-Equal Less = refl
then-Equal Equal = refl
then-Equal Greater = refl

tail_keys : (s t : Tail) → tail_cmp s t ≡ keys_cmp (tail_key s) (tail_key t)
tail_keys End End = refl
tail_keys End Dot = refl
tail_keys End Bang = refl
tail_keys Dot End = refl
tail_keys Dot Dot = refl
tail_keys Dot Bang = refl
tail_keys Bang End = refl
tail_keys Bang Dot = refl
tail_keys Bang Bang = refl

tail_class_keys : (s t : Tail) (d : List ℕ) (ds : List (List ℕ)) → tail_cmp_class s ≡ keys_cmp (tail_key s) (pattern_key (d ∷ ds) t)
tail_class_keys End t d ds = refl
tail_class_keys Dot t d ds = refl
tail_class_keys Bang t d ds = refl

class_tail_keys : (s t : Tail) (c : List ℕ) (cs : List (List ℕ)) → class_cmp_tail t ≡ keys_cmp (pattern_key (c ∷ cs) s) (tail_key t)
class_tail_keys s End c cs = refl
class_tail_keys s Dot c cs = refl
class_tail_keys s Bang c cs = refl

pattern_keys : (cs : List (List ℕ)) (s : Tail) (ds : List (List ℕ)) (t : Tail) → pattern_cmp cs s ds t ≡ keys_cmp (pattern_key cs s) (pattern_key ds t)
pattern_keys [] s [] t = tail_keys s t
pattern_keys [] s (d ∷ ds) t = tail_class_keys s t d ds
pattern_keys (c ∷ cs) s [] t = class_tail_keys s t c cs
pattern_keys (c ∷ cs) s (d ∷ ds) t = ap (ordering_then (class_cmp c d)) (pattern_keys cs s ds t)

name_keys : (m n : Meaning) → name_cmp m n ≡ keys_cmp (name_key m) (name_key n)
unfolding name_cmp
name_keys (Plain x) (Plain y) = sym (then-Equal (slice_cmp nat_cmp x y))
name_keys (Plain x) (Pattern ds t) = refl
name_keys (Pattern cs s) (Plain y) = refl
name_keys (Pattern cs s) (Pattern ds t) = pattern_keys cs s ds t

pub name_cmp_total : IsTotalOrder name_cmp
name_cmp_total =
    let same : on name_key keys_cmp ≡ name_cmp = λ i m n. sym (name_keys m n) i in
    subst IsTotalOrder same (on_total name_key (lists_total nat_list_cmp_total))

-- ---- equal names

-- if two comparisons combined are equal each of them is
pub then_is_Equal : (o p : Ordering) → ordering_then o p ≡ Equal → (o ≡ Equal) × (p ≡ Equal)
then_is_Equal Less p e = absurd cc
then_is_Equal Equal p e = (refl, e)
then_is_Equal Greater p e = absurd cc

nats_equal : (x y : ℕ) → nat_cmp x y ≡ Equal → x ≡ y
nats_equal x y e = subst (λ (o : Ordering). MatchOrdering o (x < y) (x ≡ y) (y < x)) e (ranked x y (nat_cmp x y) refl)

bytes_equal : (xs ys : List ℕ) → slice_cmp nat_cmp xs ys ≡ Equal → xs ≡ ys
bytes_equal [] [] e = refl
bytes_equal [] (y ∷ ys) e = absurd cc
bytes_equal (x ∷ xs) [] e = absurd cc
bytes_equal (x ∷ xs) (y ∷ ys) e =
    let parts = then_is_Equal (nat_cmp x y) (slice_cmp nat_cmp xs ys) e in
    let here = nats_equal x y parts.0 in
    let after = bytes_equal xs ys parts.1 in
    λ i. here i ∷ after i

pub class_cmp_total : IsTotalOrder class_cmp
class_cmp_total = then_total (on_total length nat_cmp_total) nat_list_cmp_total

pub classes_equal : (xs ys : List ℕ) → class_cmp xs ys ≡ Equal → xs ≡ ys
classes_equal xs ys e = bytes_equal xs ys (then_is_Equal (nat_cmp (length xs) (length ys)) (slice_cmp nat_cmp xs ys) e).1

tails_equal : (s t : Tail) → tail_cmp s t ≡ Equal → s ≡ t
tails_equal End End e = refl
tails_equal End Dot e = absurd cc
tails_equal End Bang e = absurd cc
tails_equal Dot End e = absurd cc
tails_equal Dot Dot e = refl
tails_equal Dot Bang e = absurd cc
tails_equal Bang End e = absurd cc
tails_equal Bang Dot e = absurd cc
tails_equal Bang Bang e = refl

no_tie : (t : Tail) → tail_cmp_class t ≡ Equal → ⊥
no_tie End e = absurd cc
no_tie Dot e = absurd cc
no_tie Bang e = absurd cc

no_tie_back : (t : Tail) → class_cmp_tail t ≡ Equal → ⊥
no_tie_back End e = absurd cc
no_tie_back Dot e = absurd cc
no_tie_back Bang e = absurd cc

patterns_equal : (cs : List (List ℕ)) (s : Tail) (ds : List (List ℕ)) (t : Tail) → pattern_cmp cs s ds t ≡ Equal → (cs ≡ ds) × (s ≡ t)
patterns_equal [] s [] t e = (refl, tails_equal s t e)
patterns_equal [] s (d ∷ ds) t e = absurd (no_tie s e)
patterns_equal (c ∷ cs) s [] t e = absurd (no_tie_back t e)
patterns_equal (c ∷ cs) s (d ∷ ds) t e =
    let parts = then_is_Equal (class_cmp c d) (pattern_cmp cs s ds t) e in
    let here = classes_equal c d parts.0 in
    let after = patterns_equal cs s ds t parts.1 in
    ((λ i. here i ∷ after.0 i), after.1)

names_equal : (m n : Meaning) → name_cmp m n ≡ Equal → m ≡ n
unfolding name_cmp
names_equal (Plain x) (Plain y) e = ap Plain (bytes_equal x y e)
names_equal (Plain x) (Pattern ds t) e = absurd cc
names_equal (Pattern cs s) (Plain y) e = absurd cc
names_equal (Pattern cs s) (Pattern ds t) e =
    let parts = patterns_equal cs s ds t e in
    λ i. Pattern (parts.0 i) (parts.1 i)

pub orders_names : OrdersNames
orders_names = record {
  total = name_cmp_total;
  same = λ m n. (names_equal m n, λ e. subst (λ (x : Meaning). name_cmp m x ≡ Equal) e (tied_itself name_cmp_total m));
  classes_total = class_cmp_total;
  same_class = λ xs ys. (classes_equal xs ys, λ e. subst (λ (zs : List ℕ). class_cmp xs zs ≡ Equal) e (tied_itself class_cmp_total xs));
}

-- ---- steps of the comparison

pub class_cmp-same : (xs ys : List ℕ) → xs ≡ ys → Equal ≡ class_cmp xs ys
class_cmp-same xs ys e =
    let sizes = tied_itself nat_cmp_total (length xs) in
    let members = tied_itself nat_list_cmp_total xs in
    sym (ap (λ o. ordering_then o (slice_cmp nat_cmp xs xs)) sizes ∙ members) ∙ ap (class_cmp xs) e

drop_nothing : (i : ℕ) → drop {A = List ℕ} i [] ≡ []
drop_nothing zero = refl
drop_nothing (suc i) = refl

-- one pattern has ended and the other has a class
pub pattern_cmp-left_ends : (cs : List (List ℕ)) (s : Tail) (ds : List (List ℕ)) (t : Tail) (i : ℕ) → length cs ≤ i → i < length ds → pattern_cmp (drop i cs) s (drop i ds) t ≡ tail_cmp_class s
pattern_cmp-left_ends cs s [] t i ended within = absurd (omega arith)
pattern_cmp-left_ends [] s (d ∷ ds) t zero ended within = refl
pattern_cmp-left_ends (c ∷ cs) s (d ∷ ds) t zero ended within = absurd (omega arith)
pattern_cmp-left_ends [] s (d ∷ ds) t (suc i) ended within =
    ap (λ none. pattern_cmp none s (drop i ds) t) (sym (drop_nothing i)) ∙ pattern_cmp-left_ends [] s ds t i (omega arith) (omega arith)
pattern_cmp-left_ends (c ∷ cs) s (d ∷ ds) t (suc i) ended within = pattern_cmp-left_ends cs s ds t i (omega arith) (omega arith)

pub pattern_cmp-right_ends : (cs : List (List ℕ)) (s : Tail) (ds : List (List ℕ)) (t : Tail) (i : ℕ) → length ds ≤ i → i < length cs → pattern_cmp (drop i cs) s (drop i ds) t ≡ class_cmp_tail t
pattern_cmp-right_ends [] s ds t i ended within = absurd (omega arith)
pattern_cmp-right_ends (c ∷ cs) s [] t zero ended within = refl
pattern_cmp-right_ends (c ∷ cs) s (d ∷ ds) t zero ended within = absurd (omega arith)
pattern_cmp-right_ends (c ∷ cs) s [] t (suc i) ended within =
    ap (λ none. pattern_cmp (drop i cs) s none t) (sym (drop_nothing i)) ∙ pattern_cmp-right_ends cs s [] t i (omega arith) (omega arith)
pattern_cmp-right_ends (c ∷ cs) s (d ∷ ds) t (suc i) ended within = pattern_cmp-right_ends cs s ds t i (omega arith) (omega arith)

pub is_eq-Equal : (o : Ordering) → Decides (is_eq o) (o ≡ Equal)
is_eq-Equal Less = (λ e. absurd (true≢false (sym e)), λ e. absurd cc)
is_eq-Equal Equal = (λ _. refl, λ _. refl)
is_eq-Equal Greater = (λ e. absurd (true≢false (sym e)), λ e. absurd cc)

pub same_names : (m n : Meaning) → Decides (is_eq (name_cmp m n)) (m ≡ n)
same_names m n =
    let law = orders_names.same m n in
    let test = is_eq-Equal (name_cmp m n) in
    (λ h. law.0 (test.0 h), λ e. test.1 (law.1 e))
