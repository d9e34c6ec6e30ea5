-- A class in its kept form.
use Rattle.std.proofs.Common.{◌≡◌, ℕ, zero, suc, ◌+◌, ◌-◌, ◌*◌, ◌/◌, ◌%◌, ◌^◌, ◌<◌, ◌≤◌, Bool, true, false, ◌&&◌, ◌||◌, ◌==◌, nat_le, List, [], ◌∷◌, ◌++◌, length, slice_index, codes, append-nil, eqb-true, true≢false, refl, sym, ap, ◌∙◌, arith}
use Rattle.std.proofs.lemmas.Nat.Bits.{bit_at-zero, bit_at_above, bit_at_cat_low, bit_at_cat_high}
use Rattle.std.proofs.lemmas.Bool.Decides.{nat_tests}
use Rattle.std.specs.Int.{bit_at}
use Rattle.std.specs.List.{filter, range_with_len}
use Rattle.dp_pattern.specs.Name.{is_one_of}
use Rattle.dp_pattern.specs.Classes.{byte_count, word_bytes, class_by, has_bit, has_digit, members_in, members_of}
use Rattle.dp_pattern.proofs.ClassLemmas.{class_by-same, class_by-byte, filter_range-same, filter_range-none, is_one_of-class_by}
use Rattle.dp_pattern.proofs.MemberLemmas.{members_from-first}
use Rattle.dp_pattern.proofs.WordLemmas.{filter_range-append}

-- a mask contains no byte before `0`, and its bits say which bytes from `0` it contains
has_digit-below : (mask b : ℕ) → b < 48 → has_digit mask b ≡ false
has_digit-below mask b below =
    let before : nat_le 48 b ≡ false = grind (arith, nat_tests) in
    ap (λ t. t && bit_at mask (b - 48) == 1) before

has_digit-from : (mask b : ℕ) → 48 ≤ b → has_digit mask b ≡ (bit_at mask (b - 48) == 1)
has_digit-from mask b from =
    let after : nat_le 48 b ≡ true = grind (arith, nat_tests) in
    ap (λ t. t && bit_at mask (b - 48) == 1) after

-- a mask of 16 bits contains no byte from 64
pub has_digit-above : (mask b : ℕ) → mask < 2 ^ 16 → 64 ≤ b → has_digit mask b ≡ false
has_digit-above mask b fits above =
    has_digit-from mask b (omega arith) ∙ ap (λ n. n == 1) (bit_at_above mask 16 (b - 48) fits (omega arith))

-- a mask contains only bytes among the 16 from `0`
pub outside_mask : (mask b : ℕ) → mask < 2 ^ 16 → (48 ≤ b → b ≤ 63 → ⊥) → has_digit mask b ≡ false
outside_mask mask b fits outside = by_test (nat_le 48 b) refl
  where
    by_test : (t : Bool) → nat_le 48 b ≡ t → has_digit mask b ≡ false
    by_test true from =
        let above : 48 ≤ b = grind (arith, nat_tests) in
        has_digit-above mask b fits (omega (arith, outside above))
    by_test false before = has_digit-below mask b (grind (arith, nat_tests))

-- the members of a mask are those of the word with the same bits
pub members_in-digits : (mask : ℕ) → mask < 2 ^ 16 → members_in mask 48 ≡ class_by (has_digit mask)
unfolding byte_count word_bytes
members_in-digits mask fits =
    let here = filter_range-same (λ b. bit_at mask (b - 48) == 1) (has_digit mask) 48 64 (λ b from _. sym (has_digit-from mask b from)) in
    let after = filter_range-same (has_digit mask) (λ _. false) 112 144 (λ b from _. has_digit-above mask b fits (omega arith)) ∙ filter_range-none 112 144 in
    here
    ∙ sym (append-nil (filter (has_digit mask) (range_with_len 48 64)))
    ∙ ap (λ xs. filter (has_digit mask) (range_with_len 48 64) ++ xs) (sym after)
    ∙ sym (filter_range-append (has_digit mask) 48 64 112 144 (omega arith))
    ∙ members_from-first (has_digit mask) 48 (omega arith) (λ b below. has_digit-below mask b below)

-- the classes of the letters
pub mask-digits : class_by (has_digit 1023) ≡ codes "0123456789"
unfolding byte_count
mask-digits = refl

pub mask-digits_from_1 : class_by (has_digit 1022) ≡ codes "123456789"
unfolding byte_count
mask-digits_from_1 = refl

pub mask-digits_from_2 : class_by (has_digit 1020) ≡ codes "23456789"
unfolding byte_count
mask-digits_from_2 = refl

-- a class with one member is that of a byte that it contains
pub class_by-only : (p : ℕ → Bool) (a : ℕ) → a < 256 → length (class_by p) ≡ 1 → p a ≡ true → class_by p ≡ class_by (λ b. a == b)
class_by-only p a below one has = only (class_by p) one (is_one_of-class_by p a below ∙ has) ∙ sym (class_by-byte a below)
  where
    only : (xs : List ℕ) → length xs ≡ 1 → is_one_of xs a ≡ true → xs ≡ a ∷ []
    only [] one h = absurd (omega arith)
    only (x ∷ []) one h = by_test (a == x) refl h
      where
        by_test : (t : Bool) → (a == x) ≡ t → is_one_of (x ∷ []) a ≡ true → x ∷ [] ≡ a ∷ []
        by_test true e h = ap (λ y. y ∷ []) (sym (eqb-true a x e))
        by_test false e h = absurd (true≢false (sym h ∙ ap (λ t. t || false) e))
    only (x ∷ y ∷ xs) one h = absurd (omega arith)

-- if only the first word has bits, and none of them before bit 48, they are those of a mask
pub has_bit-mask : (words : List ℕ) → slice_index words 0 < 2 ^ 64 → slice_index words 0 % 2 ^ 48 ≡ 0 → slice_index words 1 ≡ 0 → slice_index words 2 ≡ 0 → slice_index words 3 ≡ 0
    → (b : ℕ) → b < 256 → has_bit words b ≡ has_digit (slice_index words 0 / 2 ^ 48) b
has_bit-mask words fits low second third fourth = λ b below. by_place b below (b / 64) refl
  where
    first : ℕ
    first = slice_index words 0

    mask : ℕ
    mask = first / 2 ^ 48

    whole : first ≡ mask * 2 ^ 48 + 0
    whole = omega arith

    within : mask < 2 ^ 16
    within = omega arith

    first_bit : (b : ℕ) (t : Bool) → nat_le 48 b ≡ t → (bit_at first b == 1) ≡ has_digit mask b
    first_bit b true from =
        let above : 48 ≤ b = grind (arith, nat_tests) in
        ap (λ w. bit_at w b == 1) whole ∙ ap (λ n. n == 1) (bit_at_cat_high mask 48 0 b (omega arith) above) ∙ sym (has_digit-from mask b above)
    first_bit b false before =
        let below : b < 48 = grind (arith, nat_tests) in
        ap (λ w. bit_at w b == 1) whole ∙ ap (λ n. n == 1) (bit_at_cat_low mask 48 0 b below ∙ bit_at-zero b) ∙ sym (has_digit-below mask b below)

    no_bit : (k b : ℕ) → b / 64 ≡ k → 64 ≤ b → slice_index words k ≡ 0 → has_bit words b ≡ has_digit mask b
    no_bit k b e above none =
        ap (λ n. bit_at (slice_index words n) (b % 64) == 1) e
        ∙ ap (λ word. bit_at word (b % 64) == 1) none
        ∙ ap (λ n. n == 1) (bit_at-zero (b % 64))
        ∙ sym (has_digit-above mask b within above)

    by_place : (b : ℕ) → b < 256 → (k : ℕ) → b / 64 ≡ k → has_bit words b ≡ has_digit mask b
    by_place b below zero e =
        let bit : b % 64 ≡ b = omega arith in
        (λ i. bit_at (slice_index words (e i)) (bit i) == 1) ∙ first_bit b (nat_le 48 b) refl
    by_place b below (suc zero) e = no_bit 1 b e (omega arith) second
    by_place b below (suc (suc zero)) e = no_bit 2 b e (omega arith) third
    by_place b below (suc (suc (suc zero))) e = no_bit 3 b e (omega arith) fourth
    by_place b below (suc (suc (suc (suc k)))) e = absurd (omega arith)

-- then the members are those of the mask
pub class_by-mask : (words : List ℕ) → slice_index words 0 < 2 ^ 64 → slice_index words 0 % 2 ^ 48 ≡ 0 → slice_index words 1 ≡ 0 → slice_index words 2 ≡ 0 → slice_index words 3 ≡ 0 → members_of words ≡ class_by (has_digit (slice_index words 0 / 2 ^ 48))
class_by-mask words fits low second third fourth =
    class_by-same (has_bit words) (has_digit (slice_index words 0 / 2 ^ 48)) (has_bit-mask words fits low second third fourth)

-- a mask as the high bits of the first word
pub bits-of-mask : (word mask : ℕ) → mask < 2 ^ 16 → word ≡ mask * 2 ^ 48 → (b : ℕ) → b < 256 → has_bit (word ∷ 0 ∷ 0 ∷ 0 ∷ []) b ≡ has_digit mask b
bits-of-mask word mask fits is b below =
    let half : word / 2 ^ 48 ≡ mask = omega arith in
    has_bit-mask (word ∷ 0 ∷ 0 ∷ 0 ∷ []) (omega arith) (omega arith) refl refl refl b below ∙ ap (λ m. has_digit m b) half
