-- Field numbers above the greatest 64-bit number, which no value has.
use Rattle.std.specs.Prelude.{ℕ, ◌-◌, ◌^◌, min}
use Rattle.std.specs.Option.{option_map}
use Rattle.dp_wide.specs.declared.texts.FieldRange.{FieldRange}

-- a number, limited to the greatest one
abbrev pub at_most : ℕ → ℕ
at_most number = min number (2 ^ 64 - 1)

-- a range with both ends limited to the greatest number
abbrev pub range_at_most : FieldRange → FieldRange
range_at_most range = record { first = at_most range.first; last = option_map at_most range.last }
