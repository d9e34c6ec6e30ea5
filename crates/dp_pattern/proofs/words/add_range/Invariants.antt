use Rattle.std.proofs.Common.{◌≡◌, ℕ, ◌<◌, ◌||◌, ◌&&◌, nat_le, nat_lt}
use Rattle.dp_pattern.specs.Classes.{has_bit}
use Rattle.dp_pattern.proofs.words.add_range.Given as goal

abbrev pub invariant-loop-byte : goal.invariant-loop-byte
invariant-loop-byte l =
    (b : ℕ) → b < 256 → has_bit l.words b ≡ (has_bit l.fn.words b || (nat_le l.from b && nat_lt b l.byte))
