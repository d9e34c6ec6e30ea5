-- Words as bits.
use Rattle.std.proofs.Common.{◌≡◌, ℕ, zero, suc, ◌<◌, ◌+◌, ◌*◌, ◌/◌, ◌%◌, ◌^◌, max, min, bit_or, slice_index, List, ◌==◌, true, false, ◌||◌, ◌&&◌, refl, sym, ap, ◌∙◌, arith}
use borrow.Author.Tests.{eqb-true}
use Rattle.std.proofs.lemmas.Nat.{or_lt}
use Rattle.std.proofs.lemmas.Nat.Bits.{bit_at-lt, bit_at_and, bit_at_or, same_from_bits_below}
use Rattle.std.specs.Int.{bit_at}
use Rattle.std.specs.Int.Bits.{bit_and}
use Rattle.dp_pieces.specs.Sets.{set_by}

-- the greater of two bits is set if one of them is
greater : (x y : ℕ) → x < 2 → y < 2 → (max x y == 1) ≡ (x == 1 || y == 1)
greater zero zero a b = refl
greater zero (suc zero) a b = refl
greater zero (suc (suc y)) a b = absurd (omega (arith, b))
greater (suc zero) zero a b = refl
greater (suc zero) (suc zero) a b = refl
greater (suc zero) (suc (suc y)) a b = absurd (omega (arith, b))
greater (suc (suc x)) y a b = absurd (omega (arith, a))

pub either-bit : (word other i : ℕ) → (bit_at (bit_or word other) i == 1) ≡ (bit_at word i == 1 || bit_at other i == 1)
either-bit word other i =
    ap (λ n. n == 1) (bit_at_or word other i) ∙ greater (bit_at word i) (bit_at other i) (bit_at-lt word i) (bit_at-lt other i)

-- the lesser of two bits is set if both are
lesser : (x y : ℕ) → x < 2 → y < 2 → (min x y == 1) ≡ (x == 1 && y == 1)
lesser zero zero a b = refl
lesser zero (suc zero) a b = refl
lesser zero (suc (suc y)) a b = absurd (omega (arith, b))
lesser (suc zero) zero a b = refl
lesser (suc zero) (suc zero) a b = refl
lesser (suc zero) (suc (suc y)) a b = absurd (omega (arith, b))
lesser (suc (suc x)) y a b = absurd (omega (arith, a))

pub shared-bit : (word other i : ℕ) → (bit_at (bit_and word other) i == 1) ≡ (bit_at word i == 1 && bit_at other i == 1)
shared-bit word other i =
    ap (λ n. n == 1) (bit_at_and word other i) ∙ lesser (bit_at word i) (bit_at other i) (bit_at-lt word i) (bit_at-lt other i)

-- a word that adds no bit to another
pub bit-of-part : (word other : ℕ) → (bit_or word other == other) ≡ true → (i : ℕ) → (bit_at word i == 1) ≡ true → (bit_at other i == 1) ≡ true
bit-of-part word other is i has =
    ap (λ n. bit_at n i == 1) (sym (eqb-true (bit_or word other) other is)) ∙ (either-bit word other i ∙ ap (λ t. t || (bit_at other i == 1)) has)

-- two bits of which the second is set if the first is
same-bit : (x y : ℕ) → x < 2 → y < 2 → ((x == 1) ≡ true → (y == 1) ≡ true) → max x y ≡ y
same-bit zero zero a b part = refl
same-bit zero (suc zero) a b part = refl
same-bit zero (suc (suc y)) a b part = absurd (omega (arith, b))
same-bit (suc zero) zero a b part = let no : false ≡ true = part refl in absurd (let bottom : ⊥ = cc in bottom)
same-bit (suc zero) (suc zero) a b part = refl
same-bit (suc zero) (suc (suc y)) a b part = absurd (omega (arith, b))
same-bit (suc (suc x)) y a b part = absurd (omega (arith, a))

pub part-adds-none : (word other : ℕ) → word < 2 ^ 64 → other < 2 ^ 64 → ((i : ℕ) → i < 64 → (bit_at word i == 1) ≡ true → (bit_at other i == 1) ≡ true)
    → bit_or word other ≡ other
part-adds-none word other small little part = same_from_bits_below 64 (bit_or word other) other (or_lt 64 word other small little) little
    (λ i below. bit_at_or word other i ∙ same-bit (bit_at word i) (bit_at other i) (bit_at-lt word i) (bit_at-lt other i) (part i below))

-- a byte, given its word and its bit
pub bit-at-place : (words : List ℕ) (k i : ℕ) → i < 64 → set_by words (64 * k + i) ≡ (bit_at (slice_index words k) i == 1)
unfolding set_by
bit-at-place words k i below =
    let place : (64 * k + i) / 64 ≡ k = omega arith in
    let bit : (64 * k + i) % 64 ≡ i = omega arith in
    λ j. bit_at (slice_index words (place j)) (bit j) == 1
