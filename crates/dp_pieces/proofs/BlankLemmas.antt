-- Sets with blanks, and the set of a single byte.
use Rattle.std.proofs.Common.{◌≡◌, ℕ, zero, suc, ◌<◌, ◌+◌, ◌*◌, ◌/◌, ◌%◌, ◌==◌, List, slice_index, [], Bool, true, false, not, ◌&&◌, ◌||◌, refl, sym, ap, ◌∙◌, subst, arith}
use borrow.Author.Tests.{eqb-true, eqb-false}
use Rattle.std.specs.Int.{bit_at}
use Rattle.std.specs.Prelude.{replicate}
use Rattle.std.proofs.lemmas.Nat.Bits.{bit_at-zero}
use Rattle.dp_conf.specs.Blanks.{is_blank}
use Rattle.dp_pieces.specs.Bytes.{Bytes, has_blank_below}
use Rattle.dp_pieces.specs.Sets.{set_by}
use Rattle.dp_pieces.proofs.BitLemmas.{bit-at-place}
use Rattle.dp_pieces.proofs.WithinLemmas.{either-left, either-right}

pub below-none : (set : Bytes) → has_blank_below 0 set ≡ false
unfolding has_blank_below
below-none set = refl

pub below-next : (byte : ℕ) (set : Bytes) → has_blank_below byte set ≡ false → (is_blank byte && set byte) ≡ false → has_blank_below (suc byte) set ≡ false
unfolding has_blank_below
below-next byte set before here = (λ i. here i || before i)

-- a blank in the set is found from any byte above it
pub below-found : (count byte : ℕ) (set : Bytes) → byte < count → (is_blank byte && set byte) ≡ true → has_blank_below count set ≡ true
unfolding has_blank_below
below-found zero byte set less here = absurd (omega (arith, less))
below-found (suc count) byte set less here = by (byte == count) refl (λ below. below-found count byte set below here)
  where
    by : (same : Bool) → (byte == count) ≡ same → (byte < count → has_blank_below count set ≡ true) → ((is_blank count && set count) || has_blank_below count set) ≡ true
    by true same later = either-left (is_blank count && set count) (has_blank_below count set) (subst (λ b. (is_blank b && set b) ≡ true) (eqb-true byte count same) here)
    by false other later = let far = eqb-false byte count other in either-right (is_blank count && set count) (has_blank_below count set) (later (omega (arith, less, far)))

-- words that are all zero have no bits
no-word : (size k : ℕ) → slice_index (replicate size 0) k ≡ 0
no-word zero k = refl
no-word (suc size) zero = refl
no-word (suc size) (suc k) = no-word size k

pub none-has : (size byte : ℕ) → set_by (replicate size 0) byte ≡ false
unfolding set_by
none-has size byte = ap (λ word. bit_at word (byte % 64) == 1) (no-word size (byte / 64)) ∙ ap (λ bit. bit == 1) (bit_at-zero (byte % 64))

-- no words
pub no_bytes : (byte : ℕ) → set_by [] byte ≡ false
no_bytes byte = none-has 0 byte

pub only-one : (byte b : ℕ) → (b == byte || set_by (replicate 4 0) b) ≡ (b == byte)
only-one byte b = ap (λ t. b == byte || t) (none-has 4 b) ∙ last (b == byte)
  where
    last : (t : Bool) → (t || false) ≡ t
    last true = refl
    last false = refl

none-below : (count : ℕ) (set : Bytes) → ((byte : ℕ) → byte < count → (is_blank byte && set byte) ≡ false) → has_blank_below count set ≡ false
none-below zero set none = below-none set
none-below (suc count) set none = below-next count set (none-below count set (λ byte less. none byte (omega (arith, less)))) (none count (omega arith))

-- each blank below a byte is among the bits of the blanks
abbrev are-bits : ℕ → Bool
are-bits zero = true
are-bits (suc byte) = (not (is_blank byte) || (bit_at 8589933567 byte == 1)) && are-bits byte

blank-bit : (count byte : ℕ) → are-bits count ≡ true → byte < count → is_blank byte ≡ true → (bit_at 8589933567 byte == 1) ≡ true
blank-bit zero byte all less blank = absurd (omega (arith, less))
blank-bit (suc count) byte all less blank = by (byte == count) refl (first (not (is_blank count) || (bit_at 8589933567 count == 1)) all) (λ below. blank-bit count byte (second (not (is_blank count) || (bit_at 8589933567 count == 1)) all) below blank)
  where
    first : (t : Bool) → (t && are-bits count) ≡ true → t ≡ true
    first true is = refl
    first false is = is

    second : (t : Bool) → (t && are-bits count) ≡ true → are-bits count ≡ true
    second true is = is
    second false is = absurd (let bottom : ⊥ = cc in bottom)

    stands : (t : Bool) → t ≡ true → (not t || (bit_at 8589933567 byte == 1)) ≡ true → (bit_at 8589933567 byte == 1) ≡ true
    stands true is either = either
    stands false is either = absurd (let bottom : ⊥ = cc in bottom)

    by : (same : Bool) → (byte == count) ≡ same → (not (is_blank count) || (bit_at 8589933567 count == 1)) ≡ true → (byte < count → (bit_at 8589933567 byte == 1) ≡ true)
        → (bit_at 8589933567 byte == 1) ≡ true
    by true same here later =
        stands (is_blank byte) blank (subst (λ b. (not (is_blank b) || (bit_at 8589933567 b == 1)) ≡ true) (sym (eqb-true byte count same)) here)
    by false other here later = let far = eqb-false byte count other in later (omega (arith, less, far))

-- words whose first shares no bit with the blanks contain none
pub blanks-apart : (words : List ℕ) (shared : ℕ) → shared ≡ 0 → ((i : ℕ) → (bit_at shared i == 1) ≡ (bit_at (slice_index words 0) i == 1 && bit_at 8589933567 i == 1))
    → has_blank_below 33 (set_by words) ≡ false
blanks-apart words shared none both = none-below 33 (set_by words) (λ byte less. by byte less (is_blank byte) refl)
  where
    lacks : (t u : Bool) → u ≡ true → (t && u) ≡ false → t ≡ false
    lacks true u there is = sym there ∙ is
    lacks false u there is = refl

    by : (byte : ℕ) → byte < 33 → (t : Bool) → is_blank byte ≡ t → (t && set_by words byte) ≡ false
    by byte less false other = refl
    by byte less true blank =
        let nowhere : (bit_at shared byte == 1) ≡ false = ap (λ n. bit_at n byte == 1) none ∙ ap (λ bit. bit == 1) (bit_at-zero byte) in
        let place : byte ≡ 64 * 0 + byte = omega arith in
        ap (set_by words) place ∙ bit-at-place words 0 byte (omega (arith, less))
        ∙ lacks (bit_at (slice_index words 0) byte == 1) (bit_at 8589933567 byte == 1) (blank-bit 33 byte refl less blank) (sym (both byte) ∙ nowhere)
