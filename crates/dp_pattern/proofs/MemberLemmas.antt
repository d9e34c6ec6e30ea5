-- The members of a class from a given byte.
use Rattle.std.proofs.Common.{◌≡◌, ℕ, zero, suc, ◌+◌, ◌-◌, ◌<◌, ◌≤◌, Bool, true, false, cond, List, [], ◌∷◌, length, refl, sym, ap, ◌∙◌, arith, nat_cmp, Less, Equal, Greater}
use Rattle.std.specs.List.{filter, range_with_len}
use Rattle.std.specs.Ordering.{ordering_then}
use Rattle.std.specs.Cmp.Lexicographic.{slice_cmp}
use Rattle.std.proofs.lemmas.Cmp.{nat_cmp_total, tied_itself}
use Rattle.std.proofs.lemmas.Bool.Decides.{nat_tests}
use Rattle.dp_pattern.specs.Classes.{byte_count, class_by}

abbrev pub members_from : (ℕ → Bool) → ℕ → List ℕ
members_from p b = filter p (range_with_len b (byte_count - b))

pub members_from-all : (p : ℕ → Bool) → members_from p 0 ≡ class_by p
unfolding byte_count
members_from-all p = refl

pub members_from-step : (p : ℕ → Bool) (b : ℕ) → b < 256 → members_from p b ≡ cond (p b) (b ∷ members_from p (b + 1)) (members_from p (b + 1))
unfolding byte_count
members_from-step p b below =
    let next : 256 - b ≡ suc (256 - (b + 1)) = omega arith in
    ap (λ n. filter p (range_with_len b n)) next

pub members_from-end : (p : ℕ → Bool) (b : ℕ) → 256 ≤ b → members_from p b ≡ []
unfolding byte_count
members_from-end p b past =
    let none : 256 - b ≡ 0 = omega arith in
    ap (λ n. filter p (range_with_len b n)) none

less_than_each : (b : ℕ) (xs : List ℕ) (q : ℕ → Bool) (low n : ℕ) → b < low → suc (length xs) ≡ length (filter q (range_with_len low n)) → slice_cmp nat_cmp (b ∷ xs) (filter q (range_with_len low n)) ≡ Less
less_than_each b xs q low zero above long = absurd (omega arith)
less_than_each b xs q low (suc n) above long = by_test (less_than_each b xs q (low + 1) n (omega arith)) (q low) long
  where
    after : List ℕ
    after = filter q (range_with_len (low + 1) n)

    by_test : (suc (length xs) ≡ length after → slice_cmp nat_cmp (b ∷ xs) after ≡ Less) → (t : Bool) → suc (length xs) ≡ length (cond t (low ∷ after) after) → slice_cmp nat_cmp (b ∷ xs) (cond t (low ∷ after) after) ≡ Less
    by_test later true long =
        let first : nat_cmp b low ≡ Less = grind (arith, nat_tests) in
        ap (λ o. ordering_then o (slice_cmp nat_cmp xs after)) first
    by_test later false long = later long

each_greater : (b : ℕ) (xs : List ℕ) (q : ℕ → Bool) (low n : ℕ) → b < low → suc (length xs) ≡ length (filter q (range_with_len low n)) → slice_cmp nat_cmp (filter q (range_with_len low n)) (b ∷ xs) ≡ Greater
each_greater b xs q low zero above long = absurd (omega arith)
each_greater b xs q low (suc n) above long = by_test (each_greater b xs q (low + 1) n (omega arith)) (q low) long
  where
    after : List ℕ
    after = filter q (range_with_len (low + 1) n)

    by_test : (suc (length xs) ≡ length after → slice_cmp nat_cmp after (b ∷ xs) ≡ Greater) → (t : Bool) → suc (length xs) ≡ length (cond t (low ∷ after) after) → slice_cmp nat_cmp (cond t (low ∷ after) after) (b ∷ xs) ≡ Greater
    by_test later true long =
        let first : nat_cmp low b ≡ Greater = grind (arith, nat_tests) in
        ap (λ o. ordering_then o (slice_cmp nat_cmp after xs)) first
    by_test later false long = later long

-- the members from a byte are all members if none comes before it
pub members_from-first : (p : ℕ → Bool) (b : ℕ) → b ≤ 256 → ((k : ℕ) → k < b → p k ≡ false) → members_from p b ≡ class_by p
members_from-first p zero within none = members_from-all p
members_from-first p (suc b) within none =
    let here : p b ≡ false = none b (omega arith) in
    let next : suc b ≡ b + 1 = omega arith in
    ap (members_from p) next
    ∙ sym (members_from-step p b (omega arith) ∙ ap (λ t. cond t (b ∷ members_from p (b + 1)) (members_from p (b + 1))) here)
    ∙ members_from-first p b (omega arith) (λ k below. none k (omega arith))

-- ---- two classes of equal size

pub record AreLevel (p q : ℕ → Bool) (b : ℕ) : Type 0 where
  pub order : slice_cmp nat_cmp (members_from p b) (members_from q b) ≡ slice_cmp nat_cmp (class_by p) (class_by q)
  pub sizes : length (members_from p b) ≡ length (members_from q b)

-- neither class has a member before the byte
pub level-first : (p q : ℕ → Bool) (b : ℕ) → b ≤ 256 → ((k : ℕ) → k < b → p k ≡ false) → ((k : ℕ) → k < b → q k ≡ false) → length (class_by p) ≡ length (class_by q) → AreLevel p q b
level-first p q b within none_left none_right long =
    let left = members_from-first p b within none_left in
    let right = members_from-first q b within none_right in
    record {
      order = λ i. slice_cmp nat_cmp (left i) (right i);
      sizes = ap length left ∙ long ∙ sym (ap length right);
    }

module _ (p q : ℕ → Bool) (b : ℕ) (below : b < 256) (level : AreLevel p q b) where
  taken : (f : ℕ → Bool) (t : Bool) → f b ≡ t → members_from f b ≡ cond t (b ∷ members_from f (b + 1)) (members_from f (b + 1))
  taken f t e = members_from-step f b below ∙ ap (λ s. cond s (b ∷ members_from f (b + 1)) (members_from f (b + 1))) e

  -- both classes contain the byte, or neither does
  pub level-same : (t : Bool) → p b ≡ t → q b ≡ t → AreLevel p q (b + 1)
  level-same true e f =
      let left = taken p true e in
      let right = taken q true f in
      record {
        order =
            ap (λ o. ordering_then o (slice_cmp nat_cmp (members_from p (b + 1)) (members_from q (b + 1)))) (sym (tied_itself nat_cmp_total b))
            ∙ (λ i. slice_cmp nat_cmp (sym left i) (sym right i))
            ∙ level.order;
        sizes = omega (arith, ap length left, ap length right, level.sizes);
      }
  level-same false e f =
      let left = taken p false e in
      let right = taken q false f in
      record {
        order = (λ i. slice_cmp nat_cmp (sym left i) (sym right i)) ∙ level.order;
        sizes = omega (arith, ap length left, ap length right, level.sizes);
      }

  pub level-less : p b ≡ true → q b ≡ false → Less ≡ slice_cmp nat_cmp (class_by p) (class_by q)
  level-less e f =
      let left = taken p true e in
      let right = taken q false f in
      let long : suc (length (members_from p (b + 1))) ≡ length (members_from q (b + 1)) = omega (arith, ap length left, ap length right, level.sizes) in
      sym (less_than_each b (members_from p (b + 1)) q (b + 1) (byte_count - (b + 1)) (omega arith) long)
      ∙ (λ i. slice_cmp nat_cmp (sym left i) (sym right i))
      ∙ level.order

  pub level-greater : p b ≡ false → q b ≡ true → Greater ≡ slice_cmp nat_cmp (class_by p) (class_by q)
  level-greater e f =
      let left = taken p false e in
      let right = taken q true f in
      let long : suc (length (members_from q (b + 1))) ≡ length (members_from p (b + 1)) = omega (arith, ap length left, ap length right, level.sizes) in
      sym (each_greater b (members_from q (b + 1)) p (b + 1) (byte_count - (b + 1)) (omega arith) long)
      ∙ (λ i. slice_cmp nat_cmp (sym left i) (sym right i))
      ∙ level.order

pub level-end : (p q : ℕ → Bool) (b : ℕ) → 256 ≤ b → AreLevel p q b → Equal ≡ slice_cmp nat_cmp (class_by p) (class_by q)
level-end p q b past level =
    (λ i. slice_cmp nat_cmp (sym (members_from-end p b past) i) (sym (members_from-end q b past) i)) ∙ level.order
