-- The place of an element in a list without duplicates.
use Rattle.std.proofs.Common.{◌≡◌, ℕ, zero, suc, ◌+◌, Bool, true, false, cond, not, ◌&&◌, ◌||◌, ◌==◌, nat_lt, List, [], ◌∷◌, ◌++◌, length, None, Some, slice_get, refl, ap, subst, ◌∙◌, sym, arith}
use Rattle.std.proofs.Math.Dec.{eqb-suc-suc, eqb-suc-zero, eqb-zero-suc}
use Rattle.std.specs.List.{IsDistinct, AllByRecursion, list_any, position, position_or_len}
use Rattle.std.proofs.lemmas.Bool.{lt-ltb}
use Rattle.std.proofs.lemmas.List.Quantifiers.{position-Some}
use Rattle.std.proofs.lemmas.Option.{get_or_from_slice_get, slice_get_within}
use Rattle.std.specs.Cmp.{IsEquivalence}
use Rattle.std.specs.Cmp.Lexicographic.{nat_list_eq_equiv}
use Rattle.dp_conf.specs.Words.{same_text}

-- a test of either kind
pub or_false : (a b : Bool) → (a || b) ≡ false → (a ≡ false) × (b ≡ false)
or_false true b e = absurd cc
or_false false b e = (refl, e)

pub or_true : (a b : Bool) → a ≡ true → (a || b) ≡ true
or_true true b e = refl
or_true false b e = absurd cc

pub or_right : (a b : Bool) → b ≡ true → (a || b) ≡ true
or_right true b e = refl
or_right false b e = e

pub and_true : (a b : Bool) → (a && b) ≡ true → (a ≡ true) × (b ≡ true)
and_true true b e = (refl, e)
and_true false b e = absurd cc

-- an element differs from each later one
pub later_apart : {K : Type 0} (eq : K → K → Bool) (x k : K) (xs : List K) (i : ℕ) → AllByRecursion (λ y. eq x y ≡ false) xs → slice_get xs i ≡ Some k → eq x k ≡ false
later_apart eq x k [] i apart here = absurd cc
later_apart {K} eq x k (y ∷ xs) zero apart here =
    let same : y ≡ k = cc in
    subst (λ (z : K). eq x z ≡ false) same apart.0
later_apart eq x k (y ∷ xs) (suc i) apart here = later_apart eq x k xs i apart.1 here

-- an element equal to that of a place is found at that place
pub position_or_len-distinct : {K : Type 0} (eq : K → K → Bool) → IsEquivalence eq → (xs : List K) (i : ℕ) (k q : K) → IsDistinct eq xs → slice_get xs i ≡ Some k → eq q k ≡ true → position_or_len (eq q) xs ≡ i
unfolding IsDistinct
position_or_len-distinct eq laws [] i k q distinct here same = absurd cc
position_or_len-distinct {K} eq laws (x ∷ xs) zero k q distinct here same =
    let first : x ≡ k = cc in
    ap (λ t. cond (not t) (1 + position_or_len (eq q) xs) 0) (subst (λ (z : K). eq q z ≡ true) (sym first) same)
position_or_len-distinct {K} eq laws (x ∷ xs) (suc i) k q distinct here same = by (position_or_len-distinct eq laws xs i k q distinct.1 here same) (eq q x) refl
  where
    apart : eq x k ≡ false
    apart = later_apart eq x k xs i distinct.0 here

    by : position_or_len (eq q) xs ≡ i → (t : Bool) → eq q x ≡ t → cond (not t) (1 + position_or_len (eq q) xs) 0 ≡ suc i
    by later true e =
        let there : eq q k ≡ false = laws.congr q x k e ∙ apart in
        absurd cc
    by later false e = ap (λ n. 1 + n) later ∙ omega arith

-- elements added after a list that contains the element do not change its place
pub position-more : {K : Type 0} (test : K → Bool) (ks more : List K) → list_any test ks ≡ true → position_or_len test (ks ++ more) ≡ position_or_len test ks
position-more test [] more there = absurd cc
position-more {K} test (k ∷ ks) more there = by (position-more test ks more) (test k) there where
  by : (list_any test ks ≡ true → position_or_len test (ks ++ more) ≡ position_or_len test ks) → (t : Bool) → (t || list_any test ks) ≡ true → cond (not t) (1 + position_or_len test (ks ++ more)) 0 ≡ cond (not t) (1 + position_or_len test ks) 0
  by later true there = refl
  by later false there = ap (λ n. 1 + n) (later there)

-- a new element gets the place after the others
pub position-new : {K : Type 0} (test : K → Bool) (ks : List K) (k : K) → list_any test ks ≡ false → test k ≡ true → position_or_len test (ks ++ k ∷ []) ≡ position_or_len test ks
position-new test [] k absent passes = ap (λ t. cond (not t) (1 + 0) 0) passes
position-new test (x ∷ ks) k absent passes = ap (λ n. cond (not (test x)) (1 + n) 0) (position-new test ks k (or_false (test x) (list_any test ks) absent).1 passes)

-- two elements have one place exactly if they are equal
pub same_position : {K : Type 0} (eq : K → K → Bool) → IsEquivalence eq → (ks : List K) (a b : K) → list_any (eq a) ks ≡ true → list_any (eq b) ks ≡ true → (position_or_len (eq a) ks == position_or_len (eq b) ks) ≡ eq a b
same_position eq laws [] a b there other = absurd cc
same_position {K} eq laws (x ∷ ks) a b there other = by (same_position eq laws ks a b) (eq a x) refl (eq b x) refl there other where
  next : (n : ℕ) → 1 + n ≡ suc n
  next n = omega arith

  by : (list_any (eq a) ks ≡ true → list_any (eq b) ks ≡ true → (position_or_len (eq a) ks == position_or_len (eq b) ks) ≡ eq a b) → (s : Bool) → eq a x ≡ s → (t : Bool) → eq b x ≡ t → (s || list_any (eq a) ks) ≡ true → (t || list_any (eq b) ks) ≡ true → (cond (not s) (1 + position_or_len (eq a) ks) 0 == cond (not t) (1 + position_or_len (eq b) ks) 0) ≡ eq a b
  by later true e true f u v = sym (laws.congr a x b e ∙ (laws.symm x b ∙ f))
  by later true e false f u v = (λ i. 0 == next (position_or_len (eq b) ks) i) ∙ (eqb-zero-suc (position_or_len (eq b) ks) ∙ sym (laws.congr a x b e ∙ (laws.symm x b ∙ f)))
  by later false e true f u v = (λ i. next (position_or_len (eq a) ks) i == 0) ∙ (eqb-suc-zero (position_or_len (eq a) ks) ∙ sym (laws.symm a b ∙ (laws.congr b x a f ∙ (laws.symm x a ∙ e))))
  by later false e false f u v = (λ i. next (position_or_len (eq a) ks) i == next (position_or_len (eq b) ks) i) ∙ (eqb-suc-suc (position_or_len (eq a) ks) (position_or_len (eq b) ks) ∙ later u v)

-- a name equal to the one at a place among distinct names is found there
pub found_at : (names : List (List ℕ)) (i : ℕ) (there name : List ℕ) → IsDistinct same_text names → slice_get names i ≡ Some there → same_text name there ≡ true → position (same_text name) names ≡ Some i
found_at names i there name distinct here same =
    let at : position_or_len (same_text name) names ≡ i = position_or_len-distinct same_text nat_list_eq_equiv names i there name distinct here same in
    (λ j. cond (nat_lt (at j) (length names)) (Some (at j)) None) ∙ ap (λ t. cond t (Some i) None) (lt-ltb i (length names) (slice_get_within names i there here))

-- a name equals the one at the place where it is found
pub same_at : (names : List (List ℕ)) (i : ℕ) (there name : List ℕ) → slice_get names i ≡ Some there → position (same_text name) names ≡ Some i → same_text name there ≡ true
same_at names i there name here found =
    subst (λ (k : List ℕ). same_text name k ≡ true) (get_or_from_slice_get names i there there here) (position-Some (same_text name) names i there found).1
