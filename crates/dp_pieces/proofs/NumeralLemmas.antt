-- The bytes of numbers.
use Rattle.std.proofs.Common.{◌≡◌, ℕ, zero, suc, ◌<◌, ◌/◌, ◌%◌, ◌==◌, Bool, true, false, List, [], ◌∷◌, refl, arith, ℤ, pos, negsuc, if◌then◌else◌}
use Rattle.std.proofs.lemmas.Bool.Decides.{nat_tests}
use Rattle.std.specs.Fmt.{decimal, digits as digits_in, digits_onto, digit_glyph, signed_decimal}
use Rattle.dp_pieces.specs.Bytes.{Within, digits, numeric}
use Rattle.dp_pieces.proofs.WithinLemmas.{either-left, within-more}

glyph-digit : (d : ℕ) → d < 10 → digits (digit_glyph false d) ≡ true
glyph-digit d small = grind (arith, nat_tests)

last-digit : (n : ℕ) → digits (digit_glyph false (n % 10)) ≡ true
last-digit n = glyph-digit (n % 10) (omega arith)

digits-onto : (k n : ℕ) (acc : List ℕ) → Within digits acc → Within digits (digits_onto k 10 false n acc)
digits-onto zero n acc is = is
digits-onto (suc k) n acc is = by (n / 10 == 0) (digits-onto k (n / 10) (digit_glyph false (n % 10) ∷ acc) (last-digit n, is))
  where
    by : (b : Bool) → Within digits (digits_onto k 10 false (n / 10) (digit_glyph false (n % 10) ∷ acc))
        → Within digits (if b then digit_glyph false (n % 10) ∷ acc else digits_onto k 10 false (n / 10) (digit_glyph false (n % 10) ∷ acc))
    by true rest = (last-digit n, is)
    by false rest = rest

-- a number without a sign has only digits
pub within-decimal : (n : ℕ) → Within digits (decimal n)
unfolding digits_in
within-decimal n = digits-onto 64 n [] tt

pub digits-numeric : (byte : ℕ) → digits byte ≡ true → numeric byte ≡ true
digits-numeric byte is = either-left (digits byte) (byte == 45) is

-- and a signed number may have a minus
pub within-signed : (z : ℤ) → Within numeric (signed_decimal z)
within-signed (pos n) = within-more digits numeric digits-numeric (decimal n) (within-decimal n)
within-signed (negsuc n) = (refl, within-more digits numeric digits-numeric (decimal (suc n)) (within-decimal (suc n)))
