-- Numbers that are read digit by digit, and numbers that are printed and read again.
use Rattle.std.proofs.Common.{◌≡◌, ℕ, suc, ◌+◌, ◌*◌, ◌^◌, ◌<◌, ◌≤◌, Bool, true, false, cond, List, [], ◌∷◌, length, get_or, drop, Option, Some, None, refl, ap, sym, ◌∙◌, arith, nat_lt, ℤ, pos, negsuc, neg_ℤ}
use Rattle.std.specs.Prelude.{◌==◌, ◌&&◌, FitsSigned, option_and_then}
use Rattle.std.specs.Int.{w64}
use Rattle.std.specs.Option.{SomeIff}
use Rattle.std.specs.Char.{is_ascii_digit, digit_value}
use Rattle.std.specs.List.{list_all}
use Rattle.std.specs.Str.Parse.{digits_value, digits_value_after, AllDigits}
use Rattle.std.specs.Fmt.{decimal, signed_decimal}
use Rattle.std.proofs.lemmas.List.{at_drop_more, at_drop_all}
use Rattle.std.proofs.lemmas.Fmt.{decimal_is_IsNumeral}
use Rattle.std.proofs.lemmas.Str.Parse.{digit_from_value}
use Rattle.std.proofs.lemmas.Bool.Decides.{nat_tests}
use Rattle.dp_expr.specs.Numbers.{natural_of, in_word, in_range, next_value, negative_of, positive_of, number_of}

-- the number of digits after other digits with the number n, which fits a word at each step
unfoldable pub read_on : ℕ → List ℕ → Option ℕ
read_on n [] = Some n
read_on n (d ∷ ds) = option_and_then (λ m. read_on m ds) (next_value n d)

-- a digit that fits is read
pub read_on-in : (digits : List ℕ) (i n m : ℕ) → i < length digits → next_value n (get_or digits i 0) ≡ Some m → read_on n (drop i digits) ≡ read_on m (drop (i + 1) digits)
unfolding read_on
read_on-in digits i n m lt e =
    at_drop_more (read_on n) digits i 0 lt ∙ ap (option_and_then (λ k. read_on k (drop (i + 1) digits))) e

-- no digit, or a digit that does not fit, ends the reading
pub read_on-end : (digits : List ℕ) (i n : ℕ) → i < length digits → next_value n (get_or digits i 0) ≡ None → read_on n (drop i digits) ≡ None
unfolding read_on
read_on-end digits i n lt e =
    at_drop_more (read_on n) digits i 0 lt ∙ ap (option_and_then (λ k. read_on k (drop (i + 1) digits))) e

-- at the end the number is found
pub read_on-all : (digits : List ℕ) (i n : ℕ) → length digits ≤ i → read_on n (drop i digits) ≡ Some n
unfolding read_on
read_on-all digits i n le = at_drop_all (read_on n) digits i le

-- more digits do not make a smaller number
value_after-ge : (n : ℕ) (ds : List ℕ) → n ≤ digits_value_after 10 n ds
value_after-ge n [] = omega arith
value_after-ge n (d ∷ ds) = omega (arith, value_after-ge (n * 10 + digit_value d) ds)

-- a number that fits into a word
in_word-lt : (n : ℕ) → n < 2 ^ 64 → in_word (Some n) ≡ Some n
in_word-lt n lt = grind (arith, nat_tests)

-- a number that does not
in_word-ge : (n : ℕ) → 2 ^ 64 ≤ n → in_word (Some n) ≡ None
in_word-ge n ge = grind (arith, nat_tests)

-- the number of the digits in a word, or none
number_if : Bool → ℕ → Option ℕ
number_if true n = in_word (Some n)
number_if false n = None

-- a number that is too large for a word gives none
found-ge : (b : Bool) (n : ℕ) → 2 ^ 64 ≤ n → number_if b n ≡ None
unfolding number_if
found-ge true n ge = in_word-ge n ge
found-ge false n ge = refl

-- reading gives the number of the digits
read_on-value : (n : ℕ) (ds : List ℕ) → n < 2 ^ 64 → read_on n ds ≡ number_if (list_all is_ascii_digit ds) (digits_value_after 10 n ds)
unfolding read_on number_if
read_on-value n [] lt = sym (in_word-lt n lt)
read_on-value n (d ∷ ds) lt =
    let m : ℕ = n * 10 + digit_value d in
    elim (is_ascii_digit d) as (λ b. option_and_then (λ k. read_on k ds) (cond b (in_word (Some (n * 10 + digit_value d))) None) ≡ number_if (b && list_all is_ascii_digit ds) (digits_value_after 10 (n * 10 + digit_value d) ds)) [
      | true ↦ elim (nat_lt (n * 10 + digit_value d) (2 ^ 64)) as (λ b. nat_lt (n * 10 + digit_value d) (2 ^ 64) ≡ b → option_and_then (λ k. read_on k ds) (cond b (Some (n * 10 + digit_value d)) None) ≡ number_if (list_all is_ascii_digit ds) (digits_value_after 10 (n * 10 + digit_value d) ds)) [
        | true ↦ λ e. read_on-value (n * 10 + digit_value d) ds (grind (arith, nat_tests))
        | false ↦ λ e. let ge : 2 ^ 64 ≤ n * 10 + digit_value d = grind (arith, nat_tests) in
            sym (found-ge (list_all is_ascii_digit ds) (digits_value_after 10 (n * 10 + digit_value d) ds) (omega (arith, value_after-ge (n * 10 + digit_value d) ds)))
      ] refl
      | false ↦ refl
    ]

-- the same as testing all digits first
found-in_word : (b : Bool) (n : ℕ) → number_if b n ≡ in_word (cond b (Some n) None)
unfolding number_if
found-in_word true n = refl
found-in_word false n = refl

-- one or more digits, read from the first
pub read_on-natural : (digits : List ℕ) → 0 < length digits → read_on 0 digits ≡ in_word (natural_of digits)
unfolding natural_of
read_on-natural [] some = absurd (omega arith)
read_on-natural (d ∷ ds) some =
    read_on-value 0 (d ∷ ds) (omega arith)
    ∙ found-in_word (list_all is_ascii_digit (d ∷ ds)) (digits_value 10 (d ∷ ds))

-- no digits write no number
pub natural_of-empty : (digits : List ℕ) → length digits ≡ 0 → natural_of digits ≡ None
unfolding natural_of
natural_of-empty [] e = refl
natural_of-empty (d ∷ ds) e = absurd (omega arith)

-- the result of a checked operation
pub in_range-checked : (o : Option ℤ) (z : ℤ) → SomeIff o (FitsSigned w64 z) z → o ≡ in_range z
in_range-checked None (pos n) h =
    let no : ¬ (n < 2 ^ 63) = λ lt. h (record { sfits = lt }) in grind (arith, nat_tests)
in_range-checked None (negsuc n) h =
    let no : ¬ (n < 2 ^ 63) = λ lt. h (record { sfits = lt }) in grind (arith, nat_tests)
in_range-checked (Some x) (pos n) h =
    let fits = h.0.sfits in let same = h.1 in grind (arith, nat_tests)
in_range-checked (Some x) (negsuc n) h =
    let fits = h.0.sfits in let same = h.1 in grind (arith, nat_tests)

-- a number that fits is in range
pub in_range-fits : (z : ℤ) → FitsSigned w64 z → in_range z ≡ Some z
in_range-fits (pos n) fits = let lt : n < 2 ^ 63 = fits.sfits in grind (arith, nat_tests)
in_range-fits (negsuc n) fits = let lt : n < 2 ^ 63 = fits.sfits in grind (arith, nat_tests)

-- a byte with the value of a digit is a digit
is_digit : (d : ℕ) → digit_value d < 10 → is_ascii_digit d ≡ true
is_digit d small =
    let low = (digit_from_value d small).0 in
    let high = (digit_from_value d small).1 in
    grind (arith, nat_tests)

-- the same for a list
list_all-digits : (ds : List ℕ) → AllDigits 10 ds → list_all is_ascii_digit ds ≡ true
list_all-digits [] h = refl
list_all-digits (d ∷ ds) h = rw (is_digit d h.0) (list_all-digits ds h.1)

-- digits write their number
natural_of-digits : (ds : List ℕ) → 0 < length ds → AllDigits 10 ds → natural_of ds ≡ Some (digits_value 10 ds)
unfolding natural_of
natural_of-digits [] some h = absurd (omega arith)
natural_of-digits (d ∷ ds) some h =
    ap (λ b. cond b (Some (digits_value 10 (d ∷ ds))) None) (list_all-digits (d ∷ ds) h)

-- a decimal writes its number
pub natural_of-decimal : (n : ℕ) → n < 2 ^ 64 → natural_of (decimal n) ≡ Some n
natural_of-decimal n lt =
    let k = decimal_is_IsNumeral n lt in
    natural_of-digits (decimal n) k.0.0 k.0.1 ∙ ap Some k.1

-- digits contain no minus
number_of-digits : (ds : List ℕ) → 0 < length ds → AllDigits 10 ds → number_of ds ≡ positive_of ds
unfolding number_of
number_of-digits [] some h = absurd (omega arith)
number_of-digits (d ∷ ds) some h =
    let low = (digit_from_value d h.0).0 in
    let other : (d == 45) ≡ false = grind (arith, nat_tests) in
    ap (λ b. cond b (negative_of ds) (positive_of (d ∷ ds))) other

-- a number that is printed is read as the same number
pub number_of-decimal_text : (z : ℤ) → FitsSigned w64 z → number_of (signed_decimal z) ≡ Some z
unfolding number_of
number_of-decimal_text (pos n) fits =
    let k = decimal_is_IsNumeral n (omega (arith, fits.sfits)) in
    number_of-digits (decimal n) k.0.0 k.0.1
    ∙ ap (option_and_then (λ m. in_range (pos m))) (natural_of-decimal n (omega (arith, fits.sfits)))
    ∙ in_range-fits (pos n) fits
number_of-decimal_text (negsuc n) fits =
    ap (option_and_then (λ m. in_range (neg_ℤ (pos m)))) (natural_of-decimal (suc n) (omega (arith, fits.sfits)))
    ∙ in_range-fits (negsuc n) fits
