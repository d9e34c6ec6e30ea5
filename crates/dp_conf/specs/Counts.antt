-- Counts with a greatest number.
use Rattle.std.specs.Prelude.{ℕ, ◌+◌, nat_lt, if◌then◌else◌}

-- the greatest number of 64 bits
abbrev pub most_counted : ℕ
most_counted = 18446744073709551615

-- one more, up to the greatest number
abbrev pub one_more : ℕ → ℕ
one_more count = if nat_lt count most_counted then count + 1 else most_counted
