-- Classes given by tests.
use Rattle.std.proofs.Common.{◌≡◌, ℕ, zero, suc, ◌+◌, ◌<◌, ◌≤◌, ◌/◌, ◌%◌, Bool, true, false, cond, ◌&&◌, ◌||◌, ◌==◌, nat_le, List, [], ◌∷◌, slice_index, codes, ◌≢◌, true≢false, eqb-true, ne_eqb, eq-eqb, refl, sym, ap, ◌∙◌, arith}
use Rattle.std.specs.List.{filter, range_with_len, list_any}
use Rattle.std.specs.Int.{bit_at}
use Rattle.std.proofs.lemmas.Nat.Bits.{bit_at-zero}
use Rattle.dp_pattern.specs.Name.{is_one_of}
use Rattle.dp_pattern.specs.Classes.{byte_count, class_by, has_bit}

-- two tests that agree on each number of a range accept the same ones
pub filter_range-same : (p q : ℕ → Bool) (low n : ℕ) → ((b : ℕ) → low ≤ b → b < low + n → p b ≡ q b) → filter p (range_with_len low n) ≡ filter q (range_with_len low n)
filter_range-same p q low zero same = refl
filter_range-same p q low (suc n) same =
    let here : p low ≡ q low = same low (omega arith) (omega arith) in
    let after = filter_range-same p q (low + 1) n (λ b from to. same b (omega arith) (omega arith)) in
    λ i. cond (here i) (low ∷ after i) (after i)

-- two tests that agree on each byte give the same class
pub class_by-same : (p q : ℕ → Bool) → ((b : ℕ) → b < 256 → p b ≡ q b) → class_by p ≡ class_by q
unfolding byte_count
class_by-same p q same = filter_range-same p q 0 256 (λ b _ below. same b below)

-- if no number passes the list is empty
pub filter_range-none : (low n : ℕ) → filter (λ _. false) (range_with_len low n) ≡ []
filter_range-none low zero = refl
filter_range-none low (suc n) = filter_range-none (low + 1) n

filter_range-one : (a low n : ℕ) → low ≤ a → a < low + n → filter (λ b. a == b) (range_with_len low n) ≡ a ∷ []
filter_range-one a low zero from to = absurd (omega arith)
filter_range-one a low (suc n) from to = by_test (filter_range-one a (low + 1) n) (a == low) refl
  where
    by_test : (low + 1 ≤ a → a < (low + 1) + n → filter (λ b. a == b) (range_with_len (low + 1) n) ≡ a ∷ []) → (t : Bool) → (a == low) ≡ t → filter (λ b. a == b) (range_with_len low (suc n)) ≡ a ∷ []
    by_test later true e =
        let here : low ≡ a = sym (eqb-true a low e) in
        let after = filter_range-same (λ b. a == b) (λ _. false) (low + 1) n (λ b above _. ne_eqb a b (λ same. absurd (omega arith))) ∙ filter_range-none (low + 1) n in
        ap (λ t. cond t (low ∷ filter (λ b. a == b) (range_with_len (low + 1) n)) (filter (λ b. a == b) (range_with_len (low + 1) n))) e ∙ (λ i. here i ∷ after i)
    by_test later false e =
        let other : a ≢ low = λ same. true≢false (sym (eq-eqb a low same) ∙ e) in
        ap (λ t. cond t (low ∷ filter (λ b. a == b) (range_with_len (low + 1) n)) (filter (λ b. a == b) (range_with_len (low + 1) n))) e ∙ later (omega arith) (omega arith)

-- the class of a single byte
pub class_by-byte : (a : ℕ) → a < 256 → class_by (λ b. a == b) ≡ a ∷ []
unfolding byte_count
class_by-byte a below = filter_range-one a 0 256 (omega arith) below

-- a class that is kept as four words without bits is empty
pub has_bit-empty : (b : ℕ) → has_bit (0 ∷ 0 ∷ 0 ∷ 0 ∷ []) b ≡ false
has_bit-empty b = by_place (b / 64) (b % 64)
  where
    by_place : (k i : ℕ) → (bit_at (slice_index (0 ∷ 0 ∷ 0 ∷ 0 ∷ []) k) i == 1) ≡ false
    by_place zero i = ap (λ n. n == 1) (bit_at-zero i)
    by_place (suc zero) i = ap (λ n. n == 1) (bit_at-zero i)
    by_place (suc (suc zero)) i = ap (λ n. n == 1) (bit_at-zero i)
    by_place (suc (suc (suc zero))) i = ap (λ n. n == 1) (bit_at-zero i)
    by_place (suc (suc (suc (suc k)))) i = ap (λ n. n == 1) (bit_at-zero i)

-- the digits from one
pub class_by-digits : class_by (λ b. nat_le 48 b && nat_le b 57) ≡ codes "0123456789"
unfolding byte_count
class_by-digits = refl

pub class_by-digits_from_1 : class_by (λ b. nat_le 49 b && nat_le b 57) ≡ codes "123456789"
unfolding byte_count
class_by-digits_from_1 = refl

pub class_by-digits_from_2 : class_by (λ b. nat_le 50 b && nat_le b 57) ≡ codes "23456789"
unfolding byte_count
class_by-digits_from_2 = refl

none_below : (p : ℕ → Bool) (b low n : ℕ) → b < low → list_any (λ a. b == a) (filter p (range_with_len low n)) ≡ false
none_below p b low zero above = refl
none_below p b low (suc n) above = by_test (none_below p b (low + 1) n (omega arith)) (p low) refl
  where
    by_test : list_any (λ a. b == a) (filter p (range_with_len (low + 1) n)) ≡ false → (t : Bool) → p low ≡ t → list_any (λ a. b == a) (cond (p low) (low ∷ filter p (range_with_len (low + 1) n)) (filter p (range_with_len (low + 1) n))) ≡ false
    by_test later true e = rw e (ap (λ t. t || list_any (λ a. b == a) (filter p (range_with_len (low + 1) n))) (ne_eqb b low (λ same. absurd (omega arith))) ∙ later)
    by_test later false e = rw e later

any_in_range : (p : ℕ → Bool) (b low n : ℕ) → low ≤ b → b < low + n → list_any (λ a. b == a) (filter p (range_with_len low n)) ≡ p b
any_in_range p b low zero from to = absurd (omega arith)
any_in_range p b low (suc n) from to = by_tests (any_in_range p b (low + 1) n) (p low) refl (b == low) refl
  where
    rest : List ℕ
    rest = filter p (range_with_len (low + 1) n)

    by_tests : (low + 1 ≤ b → b < (low + 1) + n → list_any (λ a. b == a) rest ≡ p b) → (t : Bool) → p low ≡ t → (s : Bool) → (b == low) ≡ s → list_any (λ a. b == a) (cond (p low) (low ∷ rest) rest) ≡ p b
    by_tests later true e true same =
        let here : low ≡ b = sym (eqb-true b low same) in
        rw (e, same) (sym (ap p (sym here) ∙ e))
    by_tests later true e false other =
        let apart : low ≢ b = λ here. true≢false (sym (eq-eqb b low (sym here)) ∙ other) in
        rw (e, other) (later (omega arith) (omega arith))
    by_tests later false e true same =
        let here : low ≡ b = sym (eqb-true b low same) in
        rw e (none_below p b (low + 1) n (omega arith) ∙ sym (ap p (sym here) ∙ e))
    by_tests later false e false other =
        let apart : low ≢ b = λ here. true≢false (sym (eq-eqb b low (sym here)) ∙ other) in
        rw e (later (omega arith) (omega arith))

-- the members of the class of a test are the bytes that pass it
pub is_one_of-class_by : (p : ℕ → Bool) (b : ℕ) → b < 256 → is_one_of (class_by p) b ≡ p b
unfolding byte_count
is_one_of-class_by p b below = any_in_range p b 0 256 (omega arith) below
