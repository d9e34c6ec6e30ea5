-- Texts of the code in terms of definitions.
use Rattle.std.proofs.Common.{◌≡◌, ℕ, ◌<◌, true, false, List, length, Some, None, arith, ℤ, pos, negsuc}
use Rattle.std.specs.Prelude.{FitsSigned}
use Rattle.std.specs.Int.{w64}
use Rattle.std.specs.Ordering.{nat_cmp, int_cmp}
use Rattle.std.specs.Cmp.Lexicographic.{slice_cmp}
use Rattle.std.specs.Fmt.{signed_decimal}
use Rattle.std.proofs.lemmas.Fmt.{decimal_nonempty, decimal_digit}
use Rattle.std.proofs.lemmas.Bool.Decides.{nat_tests}
use Rattle.std.specs.Prelude.{◌==◌}
use Rattle.dp_expr.specs.Numbers.{number_of}
use Rattle.dp_expr.proofs.NumbersLemmas.{number_of-decimal_text}
use Rattle.dp_expr.specs.Values.{is_zero, is_false, order_of, truth}

-- true is printed as 1
pub decimal_one : signed_decimal (pos 1) ≡ truth true
decimal_one = decimal_digit 1 (omega arith)

-- false is printed as 0
pub decimal_zero : signed_decimal (pos 0) ≡ truth false
decimal_zero = decimal_digit 0 (omega arith)

-- a number is printed as some text
length-decimal_text : (z : ℤ) → FitsSigned w64 z → 0 < length (signed_decimal z)
length-decimal_text (pos n) fits = decimal_nonempty n (omega (arith, fits.sfits))
length-decimal_text (negsuc n) fits = omega arith

-- a printed number is false exactly if it is zero
pub is_false-decimal_text : (z : ℤ) → FitsSigned w64 z → is_zero (Some z) ≡ is_false (signed_decimal z)
unfolding is_false
is_false-decimal_text z fits =
    let some = length-decimal_text z fits in
    let e : (length (signed_decimal z) == 0) ≡ false = grind (arith, nat_tests) in
    rw (e, number_of-decimal_text z fits)

-- two numbers are compared as numbers
pub order_of-numbers : (a b : List ℕ) (m n : ℤ) → number_of a ≡ Some m → number_of b ≡ Some n → order_of a b ≡ int_cmp m n
unfolding order_of
order_of-numbers a b m n p q = rw (p, q)

-- if the left side is not a number, bytes are compared
pub order_of-first : (a b : List ℕ) → number_of a ≡ None → order_of a b ≡ slice_cmp nat_cmp a b
unfolding order_of
order_of-first a b p = rw p

-- the same if the right side is not a number
pub order_of-second : (a b : List ℕ) (m : ℤ) → number_of a ≡ Some m → number_of b ≡ None → order_of a b ≡ slice_cmp nat_cmp a b
unfolding order_of
order_of-second a b m p q = rw (p, q)
