-- The numbers that texts write.
use Rattle.std.specs.Prelude.{ℕ, ◌+◌, ◌*◌, ◌^◌, List, [], ◌∷◌, Option, Some, None, if◌then◌else◌, ◌==◌, nat_lt, option_and_then, ℤ, pos, negsuc, neg_ℤ}
use Rattle.std.specs.Char.{is_ascii_digit, digit_value}
use Rattle.std.specs.List.{list_all}
use Rattle.std.specs.Str.Parse.{digits_value}
use Rattle.std.specs.Fmt.{signed_decimal}
use Rattle.dp_expr.specs.Ascii.{minus_sign}

-- the number, if it is from -2^63 to 2^63 - 1
abbrev pub in_range : ℤ → Option ℤ
in_range (pos n) = if nat_lt n (2 ^ 63) then Some (pos n) else None
in_range (negsuc n) = if nat_lt n (2 ^ 63) then Some (negsuc n) else None

-- the number that one or more digits write
unfoldable pub natural_of : List ℕ → Option ℕ
natural_of [] = None
natural_of (d ∷ digits) =
    if list_all is_ascii_digit (d ∷ digits) then Some (digits_value 10 (d ∷ digits)) else None

-- the number after a minus
abbrev pub negative_of : List ℕ → Option ℤ
negative_of digits = option_and_then (λ n. in_range (neg_ℤ (pos n))) (natural_of digits)

-- the number without a minus
abbrev pub positive_of : List ℕ → Option ℤ
positive_of digits = option_and_then (λ n. in_range (pos n)) (natural_of digits)

-- the number that a text writes: an optional minus and digits, with a value in range
unfoldable pub number_of : List ℕ → Option ℤ
number_of [] = None
number_of (b ∷ bytes) = if b == minus_sign then negative_of bytes else positive_of (b ∷ bytes)

-- the text of a number in range
abbrev pub decimal_text : Option ℤ → Option (List ℕ)
decimal_text None = None
decimal_text (Some z) = Some (signed_decimal z)

-- the number, if it fits into unsigned 64 bits
abbrev pub in_word : Option ℕ → Option ℕ
in_word None = None
in_word (Some n) = if nat_lt n (2 ^ 64) then Some n else None

-- the number with one more digit at its end, if that fits into such a word
abbrev pub next_value : ℕ → ℕ → Option ℕ
next_value value digit = if is_ascii_digit digit then in_word (Some (value * 10 + digit_value digit)) else None
