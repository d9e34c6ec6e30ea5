-- A class in four words, and a word and its lowest bit.
use Rattle.std.proofs.Common.{◌≡◌, ℕ, zero, suc, ◌+◌, ◌-◌, ◌*◌, ◌/◌, ◌%◌, ◌^◌, ◌<◌, ◌≤◌, Bool, true, false, cond, ◌==◌, ◌≢◌, bit_and, count_ones, List, [], ◌∷◌, ◌++◌, length, slice_index, inl, inr, sym, ap, ◌∙◌, arith, w64}
use Rattle.std.proofs.lemmas.Bool.{cases_eq}
use Rattle.std.proofs.lemmas.Nat.{and_le_l, ones_le_self}
use Rattle.std.proofs.lemmas.Nat.Bits.{bit_at-zero, bit_at_lowest, bit_at-suc, bit_at-trailing_zeros, bit_at_clear_same, bit_at_clear_other}
use Rattle.std.proofs.Math.Nat.{pow-suc}
use Rattle.std.specs.Int.{bit_at, bit_not, trailing_zeros}
use Rattle.std.specs.Int.Count.{ones_step}
use Rattle.std.specs.List.{filter, range_with_len}
use Rattle.dp_pattern.specs.Classes.{byte_count, word_bytes, has_bit, members_in}
use Rattle.dp_pattern.proofs.ClassLemmas.{filter_range-same, filter_range-none}
use Rattle.dp_pattern.proofs.MemberLemmas.{members_from}

-- ---- a class in words

-- a range is its start and the rest
pub filter_range-append : (p : ℕ → Bool) (low n next m : ℕ) → low + n ≡ next → filter p (range_with_len low (n + m)) ≡ filter p (range_with_len low n) ++ filter p (range_with_len next m)
filter_range-append p low zero next m there =
    let here : low ≡ next = omega arith in
    let long : 0 + m ≡ m = omega arith in
    λ i. filter p (range_with_len (here i) (long i))
filter_range-append p low (suc n) next m there =
    let long : suc n + m ≡ suc (n + m) = omega arith in
    ap (λ k. filter p (range_with_len low k)) long ∙ by_test (filter_range-append p (low + 1) n next m (omega arith)) (p low)
  where
    whole : List ℕ
    whole = filter p (range_with_len (low + 1) (n + m))

    front : List ℕ
    front = filter p (range_with_len (low + 1) n)

    after : List ℕ
    after = filter p (range_with_len next m)

    by_test : whole ≡ front ++ after → (t : Bool) → cond t (low ∷ whole) whole ≡ cond t (low ∷ front) front ++ after
    by_test later true = ap (λ xs. low ∷ xs) later
    by_test later false = later

-- the members from a word are those of the word, and then those from the next word
pub members_from-word : (words : List ℕ) (k : ℕ) → k < 4 → members_from (has_bit words) (64 * k) ≡ members_in (slice_index words k) (64 * k) ++ members_from (has_bit words) (64 * (k + 1))
unfolding byte_count word_bytes
members_from-word words k within =
    let p = has_bit words in
    let rest : ℕ = 256 - 64 * (k + 1) in
    let long : 256 - 64 * k ≡ 64 + rest = omega arith in
    let same = filter_range-same p (λ b. bit_at (slice_index words k) (b - 64 * k) == 1) (64 * k) 64 (λ b from to.
    let place : b / 64 ≡ k = omega arith in
    let bit : b % 64 ≡ b - 64 * k = omega arith in
    λ i. bit_at (slice_index words (place i)) (bit i) == 1) in
    ap (λ n. filter p (range_with_len (64 * k) n)) long
    ∙ filter_range-append p (64 * k) 64 (64 * (k + 1)) rest (omega arith)
    ∙ ap (λ xs. xs ++ members_from p (64 * (k + 1))) same

-- ---- a word and its lowest bit

-- a word without bits has no members
pub members_in-none : (first : ℕ) → members_in 0 first ≡ []
members_in-none first =
    filter_range-same (λ b. bit_at 0 (b - first) == 1) (λ _. false) first word_bytes (λ b _ _. ap (λ n. n == 1) (bit_at-zero (b - first)))
    ∙ filter_range-none first word_bytes

-- the numbers that pass a test are the first one, and those that pass the test without it
filter_range-first : (p q : ℕ → Bool) (a low n : ℕ) → low ≤ a → a < low + n → p a ≡ true → q a ≡ false
    → ((b : ℕ) → b < a → low ≤ b → p b ≡ false)
    → ((b : ℕ) → low ≤ b → b < low + n → b ≢ a → q b ≡ p b)
    → filter p (range_with_len low n) ≡ a ∷ filter q (range_with_len low n)
filter_range-first p q a low zero from to here gone before others = absurd (omega arith)
filter_range-first p q a low (suc n) from to here gone before others = elim (cases_eq low a) [
  | inl same ↦
      let after = filter_range-same p q (low + 1) n (λ b above below. sym (others b (omega arith) (omega arith) (λ e. absurd (omega arith)))) in
      let passes : p low ≡ true = ap p same ∙ here in
      let fails : q low ≡ false = ap q same ∙ gone in
      rw (passes, fails) (λ i. same i ∷ after i)
  | inr other ↦
      let later = filter_range-first p q a (low + 1) n (omega arith) (omega arith) here gone (λ b below above. before b below (omega arith)) (λ b above below apart. others b (omega arith) (omega arith) apart) in
      let fails : p low ≡ false = before low (omega arith) (omega arith) in
      let fails_too : q low ≡ false = others low (omega arith) (omega arith) other ∙ fails in
      rw (fails, fails_too) later
]

-- the place of the lowest bit
abbrev pub lowest : ℕ → ℕ
lowest word = trailing_zeros w64 word

-- the word without its lowest bit
abbrev pub without_lowest : ℕ → ℕ
without_lowest word = bit_and word (bit_not w64 (1 * 2 ^ lowest word % 2 ^ 64))

module _ (word : ℕ) (some : 0 < word) (fits : word < 2 ^ 64) where
  is_lowest : (lowest word < 64) × (bit_at word (lowest word) ≡ 1) × ((i : ℕ) → i < lowest word → bit_at word i ≡ 0)
  is_lowest = bit_at-trailing_zeros w64 word some fits

  -- the lowest bit of a word is a member
  pub has_bit-lowest : (words : List ℕ) (k : ℕ) → slice_index words k ≡ word → has_bit words (64 * k + lowest word) ≡ true
  has_bit-lowest words k here =
      let within = is_lowest.0 in
      let place : (64 * k + lowest word) / 64 ≡ k = omega arith in
      let bit : (64 * k + lowest word) % 64 ≡ lowest word = omega arith in
      (λ i. bit_at (slice_index words (place i)) (bit i) == 1) ∙ ap (λ w. bit_at w (lowest word) == 1) here ∙ ap (λ n. n == 1) is_lowest.1

  cleared : bit_at (without_lowest word) (lowest word) ≡ 0
  cleared = bit_at_clear_same w64 word (lowest word) is_lowest.0

  -- without its lowest bit a word is smaller
  pub without_lowest-lt : without_lowest word < word
  without_lowest-lt = elim (cases_eq (without_lowest word) word) [
    | inl same ↦ absurd (let both : bit_at (without_lowest word) (lowest word) ≡ bit_at word (lowest word) = ap (λ x. bit_at x (lowest word)) same in omega (arith, cleared, is_lowest.1))
    | inr other ↦ omega (arith, and_le_l word (bit_not w64 (1 * 2 ^ lowest word % 2 ^ 64)))
  ]

  -- the lowest bit is the first member, and the other bits are the other members
  pub members_in-lowest : (first : ℕ) → members_in word first ≡ (first + lowest word) ∷ members_in (without_lowest word) first
  unfolding word_bytes
  members_in-lowest first =
      let place : first + lowest word - first ≡ lowest word = omega arith in
      filter_range-first (λ b. bit_at word (b - first) == 1) (λ b. bit_at (without_lowest word) (b - first) == 1) (first + lowest word) first 64 (omega arith) (omega (arith, is_lowest.0))
      (ap (λ k. bit_at word k == 1) place ∙ ap (λ n. n == 1) is_lowest.1)
      (ap (λ k. bit_at (without_lowest word) k == 1) place ∙ ap (λ n. n == 1) cleared)
      (λ b below from. ap (λ n. n == 1) (is_lowest.2 (b - first) (omega arith)))
      (λ b from to apart. ap (λ n. n == 1) (bit_at_clear_other w64 word (lowest word) is_lowest.0 (b - first) (omega arith) (λ same. apart (omega arith))))

-- ---- the number of members

-- the first n bytes of a word without bits after them have as many members as there are set bits
count_bits : (word first n : ℕ) → word < 2 ^ n → length (filter (λ b. bit_at word (b - first) == 1) (range_with_len first n)) ≡ count_ones word
count_bits word first zero fits = omega (arith, ones_le_self word)
count_bits word first (suc n) fits =
    by_digit (ap length halved ∙ count_bits (word / 2) (first + 1) n (omega (arith, pow-suc 2 n))) (bit_at word (first - first)) (ap (bit_at word) none ∙ bit_at_lowest word)
  where
    none : first - first ≡ 0
    none = omega arith

    after : List ℕ
    after = filter (λ b. bit_at word (b - first) == 1) (range_with_len (first + 1) n)

    halved : after ≡ filter (λ b. bit_at (word / 2) (b - (first + 1)) == 1) (range_with_len (first + 1) n)
    halved = filter_range-same _ _ (first + 1) n (λ b from to.
        let place : b - first ≡ suc (b - (first + 1)) = omega arith in
        ap (λ x. x == 1) (ap (bit_at word) place ∙ bit_at-suc word (b - (first + 1))))

    by_digit : length after ≡ count_ones (word / 2) → (d : ℕ) → d ≡ word % 2 → length (cond (d == 1) (first ∷ after) after) ≡ count_ones word
    by_digit later zero low = omega (arith, ones_step word)
    by_digit later (suc zero) low = omega (arith, ones_step word)
    by_digit later (suc (suc d)) low = absurd (omega arith)

-- a word has as many members as set bits
pub length-members_in : (word first : ℕ) → word < 2 ^ 64 → length (members_in word first) ≡ count_ones word
unfolding word_bytes
length-members_in word first fits = count_bits word first 64 fits
