-- Names and their numbers.
use Rattle.std.proofs.Common.{◌≡◌, ◌<◌, ◌≤◌, ◌+◌, ℕ, suc, Bool, true, false, cond, List, [], ◌∷◌, ◌++◌, Option, Some, None, refl, sym, ap, nat_eq, nat_lt, not, ◌∙◌, ◌||◌, unwrap_or, length, map, position, arith}
use Rattle.std.specs.List.{AllByRecursion, IsDistinct, list_any, position_or_len}
use Rattle.std.specs.Option.{option_map}
use Rattle.std.specs.Cmp.Lexicographic.{nat_list_eq_equiv, pointwise}
use Rattle.std.proofs.lemmas.Bool.Decides.{nat_tests}
use Rattle.std.proofs.lemmas.Map.Keys.{IsDistinct-cons, IsDistinct-head, IsDistinct-push, IsDistinct-tail}
use Rattle.dp_vars.proofs.VariablesLemmas.{apart, conds_swap}
use Rattle.dp_vars.specs.Stores.{slot}

some_by : (b : Bool) (m i : ℕ) → cond b (Some m) None ≡ Some i → (b ≡ true) × (m ≡ i)
some_by true m i is = (refl, (cc))
some_by false m i is = (cc)

none_by : (b : Bool) (m : ℕ) → cond b (Some m) None ≡ None → b ≡ false
none_by true m is = (cc)
none_by false m is = refl

lt_true : (m n : ℕ) → nat_lt m n ≡ true → m < n
lt_true m n is = grind (arith, nat_tests)

lt_false : (m n : ℕ) → nat_lt m n ≡ false → n ≤ m
lt_false m n is = grind (arith, nat_tests)

module _ {X : Type 0} (test : X → Bool) where
  -- a position that is found
  pub position_some : (xs : List X) (i : ℕ) → position test xs ≡ Some i → (position_or_len test xs < length xs) × (position_or_len test xs ≡ i)
  position_some xs i is =
      let by = some_by (nat_lt (position_or_len test xs) (length xs)) (position_or_len test xs) i is in
      (lt_true (position_or_len test xs) (length xs) by.0, by.1)

  position_or_len_within : (xs : List X) → position_or_len test xs ≤ length xs
  position_or_len_within [] = omega arith
  position_or_len_within (x ∷ xs) = by (test x) (position_or_len_within xs)
    where
      by : (b : Bool) → position_or_len test xs ≤ length xs → cond (not b) (1 + position_or_len test xs) 0 ≤ suc (length xs)
      by true within = omega arith
      by false within = omega arith

  -- if none is found it is the length
  pub position_none : (xs : List X) → position test xs ≡ None → position_or_len test xs ≡ length xs
  position_none xs is =
      let above : length xs ≤ position_or_len test xs = lt_false _ _ (none_by (nat_lt (position_or_len test xs) (length xs)) (position_or_len test xs) is) in
      let within = position_or_len_within xs in
      omega arith

-- a position, given a function of each element
pub position_or_len-map : {X Y : Type 0} (f : X → Y) (test : Y → Bool) (xs : List X)
    → position_or_len test (map f xs) ≡ position_or_len (λ x. test (f x)) xs
position_or_len-map f test [] = refl
position_or_len-map f test (x ∷ xs) = ap (λ n. cond (not (test (f x))) (1 + n) 0) (position_or_len-map f test xs)

-- the number that a name has, or gets
pub number_of : {X : Type 0} (test : X → Bool) (xs : List X) (o : Option ℕ) → o ≡ position test xs → unwrap_or o (length xs) ≡ position_or_len test xs
number_of test xs None is = sym (position_none test xs (sym is))
number_of test xs (Some i) is = sym (position_some test xs i (sym is)).1

pub length-names : {X Y : Type 0} (f : X → Y) (xs : List X) → length (map f xs) ≡ length xs
length-names f [] = refl
length-names f (x ∷ xs) = ap suc (length-names f xs)

pub is_some_lt : (n : ℕ) → 0 < n → true ≡ nat_lt 0 n
is_some_lt n some = grind (arith, nat_tests)

-- the number of a name, given its number among the other names
pub slot-cons : (n : List ℕ) (names : List (List ℕ)) (q : List ℕ)
    → slot (n ∷ names) q ≡ cond (pointwise nat_eq q n) (Some 0) (option_map (λ m. suc m) (slot names q))
slot-cons n names q = by (pointwise nat_eq q n) (position_or_len (pointwise nat_eq q) names) (length names)
  where
    first : (l : ℕ) → nat_lt 0 (suc l) ≡ true
    first l = grind (arith, nat_tests)

    next : (m l : ℕ) → nat_lt (1 + m) (suc l) ≡ nat_lt m l
    next m l = grind (arith, nat_tests)

    one_more : (m : ℕ) → 1 + m ≡ suc m
    one_more m = omega arith

    mapped : (m : ℕ) (b : Bool) → cond b (Some (1 + m)) None ≡ option_map (λ k. suc k) (cond b (Some m) None)
    mapped m true = ap (λ k. Some k) (one_more m)
    mapped m false = refl

    by : (b : Bool) (m l : ℕ)
        → cond (nat_lt (cond (not b) (1 + m) 0) (suc l)) (Some (cond (not b) (1 + m) 0)) None
        ≡ cond b (Some 0) (option_map (λ k. suc k) (cond (nat_lt m l) (Some m) None))
    by true m l = ap (λ b. cond b (Some 0) None) (first l)
    by false m l = ap (λ b. cond b (Some (1 + m)) None) (next m l) ∙ mapped m (nat_lt m l)

-- a new name is none of the others
known_none : (b : Bool) (o : Option ℕ) → cond b (Some 0) (option_map (λ m. suc m) o) ≡ None → (b ≡ false) × (o ≡ None)
known_none true o is = (cc)
known_none false None is = (refl, refl)
known_none false (Some m) is = (cc)

pub new_of : (n : List ℕ) (names : List (List ℕ)) (name : List ℕ) → slot (n ∷ names) name ≡ None
    → (pointwise nat_eq name n ≡ false) × (slot names name ≡ None)
new_of n names name is = known_none (pointwise nat_eq name n) (slot names name) (sym (slot-cons n names name) ∙ is)

-- the number of a new name at the end is the number of the others, and each other name keeps its number
pub slot-push : (names : List (List ℕ)) (name q : List ℕ) → slot names name ≡ None
    → slot (names ++ name ∷ []) q ≡ cond (pointwise nat_eq q name) (Some (length names)) (slot names q)
slot-push [] name q is = slot-cons name [] q
slot-push (n ∷ names) name q is =
    let new = new_of n names name is in
    slot-cons n (names ++ name ∷ []) q
    ∙ ap (λ o. cond (pointwise nat_eq q n) (Some 0) (option_map (λ m. suc m) o)) (slot-push names name q new.1)
    ∙ ap (cond (pointwise nat_eq q n) (Some 0)) (mapped (pointwise nat_eq q name) (length names) (slot names q))
    ∙ conds_swap (pointwise nat_eq q name) (pointwise nat_eq q n) (Some (suc (length names))) (Some 0)
    (option_map (λ m. suc m) (slot names q)) (apart q name n new.0)
    ∙ ap (cond (pointwise nat_eq q name) (Some (suc (length names)))) (sym (slot-cons n names q))
  where
    mapped : (b : Bool) (m : ℕ) (o : Option ℕ)
        → option_map (λ k. suc k) (cond b (Some m) o) ≡ cond b (Some (suc m)) (option_map (λ k. suc k) o)
    mapped true m o = refl
    mapped false m o = refl

-- in an empty list no name occurs twice
pub distinct-none : IsDistinct (pointwise nat_eq) []
unfolding IsDistinct
distinct-none = tt

module _ {X : Type 0} (P : X → Type 0) where
  all_of_last : (xs : List X) (y : X) → AllByRecursion P (xs ++ y ∷ []) → P y
  all_of_last [] y all = all.0
  all_of_last (x ∷ xs) y all = all_of_last xs y all.1

  all_but_last : (xs : List X) (y : X) → AllByRecursion P (xs ++ y ∷ []) → AllByRecursion P xs
  all_but_last [] y all = tt
  all_but_last (x ∷ xs) y all = (all.0, all_but_last xs y all.1)

-- if no name occurs twice the last one is not among the others
pub last-new : (names : List (List ℕ)) (name : List ℕ) → IsDistinct (pointwise nat_eq) (names ++ name ∷ []) → slot names name ≡ None
last-new [] name distinct = refl
last-new (n ∷ names) name distinct =
    let head = IsDistinct-head (pointwise nat_eq) n (names ++ name ∷ []) distinct in
    let differs : pointwise nat_eq name n ≡ false =
    nat_list_eq_equiv.symm name n ∙ all_of_last (λ m. pointwise nat_eq n m ≡ false) names name head in
    let new = last-new names name (IsDistinct-tail (pointwise nat_eq) n (names ++ name ∷ []) distinct) in
    slot-cons n names name ∙ (λ i. cond (differs i) (Some 0) (option_map (λ m. suc m) (new i)))

-- and no name occurs twice without it
pub distinct-but_last : (names : List (List ℕ)) (name : List ℕ) → IsDistinct (pointwise nat_eq) (names ++ name ∷ [])
    → IsDistinct (pointwise nat_eq) names
distinct-but_last [] name distinct = distinct-none
distinct-but_last (n ∷ names) name distinct =
    IsDistinct-cons (pointwise nat_eq) n names
    (all_but_last (λ m. pointwise nat_eq n m ≡ false) names name (IsDistinct-head (pointwise nat_eq) n (names ++ name ∷ []) distinct))
    (distinct-but_last names name (IsDistinct-tail (pointwise nat_eq) n (names ++ name ∷ []) distinct))

-- adding a new name to names without duplicates gives no duplicate
pub distinct-push : (names : List (List ℕ)) (name : List ℕ) → slot names name ≡ None → IsDistinct (pointwise nat_eq) names
    → IsDistinct (pointwise nat_eq) (names ++ name ∷ [])
distinct-push names name new distinct = IsDistinct-push nat_list_eq_equiv names name distinct (none_is names new)
  where
    none_is : (names : List (List ℕ)) → slot names name ≡ None → list_any (pointwise nat_eq name) names ≡ false
    none_is [] new = refl
    none_is (n ∷ names) new =
        let parts = new_of n names name new in
        ap (λ b. b || list_any (pointwise nat_eq name) names) parts.0 ∙ none_is names parts.1
