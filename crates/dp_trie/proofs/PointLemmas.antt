-- Lists along which a number does not decrease: the elements before and after the place that a binary search finds.
use Rattle.std.proofs.Common.{◌≡◌, ℕ, zero, suc, ◌+◌, ◌<◌, ◌≤◌, Bool, true, false, cond, List, [], ◌∷◌, take, drop, get_or, Some, inl, inr, arith, refl, sym, ap, subst, ◌∙◌}
use Rattle.std.specs.Prelude.{slice_get, nat_lt}
use Rattle.std.specs.List.{AllByRecursion, find}
use Rattle.std.specs.List.Sorted.{IsPartitionPoint, IsPartitionedBy}
use Rattle.std.proofs.lemmas.Bool.{ltb-true, ltb-false, lt-ltb, cases_order}
use Rattle.std.proofs.lemmas.Option.{slice_get-get_or, slice_get_within, same_Some}
use Rattle.dp_trie.proofs.TreeLemmas.{drop-get}

-- ---- what holds up to a place, and from it on

pub all-first : {X : Type 0} (P : X → Type 0) (xs : List X) (n : ℕ) → ((k : ℕ) (x : X) → k < n → slice_get xs k ≡ Some x → P x) → AllByRecursion P (take n xs)
all-first P xs zero each = tt
all-first P [] (suc n) each = tt
all-first P (x ∷ xs) (suc n) each = (each 0 x (omega arith) refl, all-first P xs n (λ k y few here. each (suc k) y (omega (arith, few)) here))

pub all-last : {X : Type 0} (P : X → Type 0) (xs : List X) (n : ℕ) → ((k : ℕ) (x : X) → n ≤ k → slice_get xs k ≡ Some x → P x) → AllByRecursion P (drop n xs)
all-last P [] zero each = tt
all-last P (x ∷ xs) zero each = (each 0 x (omega arith) refl, all-last P xs 0 (λ k y few here. each (suc k) y (omega arith) here))
all-last P [] (suc n) each = tt
all-last P (x ∷ xs) (suc n) each = all-last P xs n (λ k y few here. each (suc k) y (omega (arith, few)) here)

pub at-first : {X : Type 0} (P : X → Type 0) (xs : List X) (n k : ℕ) (x : X) → AllByRecursion P (take n xs) → k < n → slice_get xs k ≡ Some x → P x
at-first P [] n k x each few here = absurd cc
at-first P (y ∷ xs) zero k x each few here = absurd (omega (arith, few))
at-first P (y ∷ xs) (suc n) zero x each few here = (let same : y ≡ x = same_Some y x here in subst P same each.0)
at-first P (y ∷ xs) (suc n) (suc k) x each few here = at-first P xs n k x each.1 (omega (arith, few)) here

pub at-last : {X : Type 0} (P : X → Type 0) (xs : List X) (n k : ℕ) (x : X) → AllByRecursion P (drop n xs) → n ≤ k → slice_get xs k ≡ Some x → P x
at-last P [] n k x each few here = absurd cc
at-last P (y ∷ xs) zero zero x each few here = (let same : y ≡ x = same_Some y x here in subst P same each.0)
at-last P (y ∷ xs) zero (suc k) x each few here = at-last P xs zero k x (rest xs each.1) (omega arith) here
  where
    rest : (ys : List _) → AllByRecursion P ys → AllByRecursion P (drop zero ys)
    rest [] all = all
    rest (z ∷ ys) all = all
at-last P (y ∷ xs) (suc n) zero x each few here = absurd (omega (arith, few))
at-last P (y ∷ xs) (suc n) (suc k) x each few here = at-last P xs n k x each (omega (arith, few)) here

-- ---- the place of a limit

pub get_here : {X : Type 0} (xs : List X) (k : ℕ) (x : X) → slice_get xs k ≡ Some x → get_or xs k x ≡ x
get_here xs k x here = (let inside = slice_get_within xs k x here in same_Some (get_or xs k x) x (sym (slice_get-get_or xs k x inside) ∙ here))

module _ {X : Type 0} (f : X → ℕ) (xs : List X) (limit : ℕ) where
  abbrev pub IsPoint : ℕ → Type 0
  IsPoint i = IsPartitionPoint (λ x. nat_lt (f x) limit ≡ true) (λ x. nat_lt (f x) limit ≡ false) xs i

  pub below-point : (i : ℕ) → IsPoint i → AllByRecursion (λ x. f x < limit) (take i xs)
  below-point i point =
      all-first (λ x. f x < limit) xs i (λ k x few here.
      ltb-true (f x) limit (ap (λ y. nat_lt (f y) limit) (sym (get_here xs k x here)) ∙ point.0 k x (omega arith) few))

  pub above-point : (i : ℕ) → IsPoint i → AllByRecursion (λ x. limit ≤ f x) (drop i xs)
  above-point i point =
      all-last (λ x. limit ≤ f x) xs i (λ k x few here.
      let inside = slice_get_within xs k x here in
      ltb-false (f x) limit (ap (λ y. nat_lt (f y) limit) (sym (get_here xs k x here)) ∙ point.1 k x few inside))

  -- the elements below the limit come first
  pub rising-parted : ((i j : ℕ) (x y : X) → i < j → slice_get xs i ≡ Some x → slice_get xs j ≡ Some y → f x ≤ f y) → IsPartitionedBy (λ x. nat_lt (f x) limit) xs
  rising-parted rise i j d few within below = elim (cases_order i j) [
    | inl same ↦ ap (λ k. nat_lt (f (get_or xs k d)) limit) same ∙ below
    | inr (inl before) ↦
        let at_i = slice_get-get_or xs i d (omega (arith, before, within)) in
        let at_j = slice_get-get_or xs j d within in
        let less = rise i j (get_or xs i d) (get_or xs j d) before at_i at_j in
        let under = ltb-true (f (get_or xs j d)) limit below in
        lt-ltb (f (get_or xs i d)) limit (omega (arith, less, under))
    | inr (inr after) ↦ absurd (omega (arith, few, after))
  ]

-- ---- what is found

-- what fails the test is skipped
pub find-past : {X : Type 0} (test : X → Bool) (xs : List X) (n : ℕ) → AllByRecursion (λ x. test x ≡ false) (take n xs) → find test xs ≡ find test (drop n xs)
find-past test [] zero each = refl
find-past test (x ∷ xs) zero each = refl
find-past test [] (suc n) each = refl
find-past test (x ∷ xs) (suc n) each = ap (λ b. cond b (Some x) (find test xs)) each.0 ∙ find-past test xs n each.1

-- the first element that passes, after some that fail
pub find-here : {X : Type 0} (test : X → Bool) (xs : List X) (n : ℕ) (x : X) → AllByRecursion (λ x. test x ≡ false) (take n xs) → slice_get xs n ≡ Some x → test x ≡ true → find test xs ≡ Some x
find-here test xs n x each here pass =
    find-past test xs n each ∙ (ap (find test) (drop-get xs n x here) ∙ ap (λ b. cond b (Some x) (find test (drop (n + 1) xs))) pass)
