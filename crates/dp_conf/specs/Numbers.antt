-- The numbers that texts write.
use Rattle.std.specs.Prelude.{ℕ, ◌+◌, ◌-◌, ◌*◌, Bool, ◌&&◌, nat_le, List, [], ◌∷◌, fold, Option, Some, None, if◌then◌else◌}
use Rattle.std.specs.List.{list_all}

-- an ASCII digit
abbrev pub is_digit : ℕ → Bool
is_digit byte = nat_le 48 byte && nat_le byte 57

-- the number of digits, with one more digit after it
abbrev pub with_digit : ℕ → ℕ → ℕ
with_digit number byte = 10 * number + (byte - 48)

-- the decimal number that these digits write
abbrev pub digits_number : List ℕ → ℕ
digits_number digits = fold with_digit 0 digits

-- the decimal number that a text writes: one or more digits, however many
abbrev pub number_of : List ℕ → Option ℕ
number_of [] = None
number_of (b ∷ bs) = if list_all is_digit (b ∷ bs) then Some (digits_number (b ∷ bs)) else None

-- the greatest priority that an entry may have
abbrev pub most_priority : ℕ
most_priority = 2147483647
