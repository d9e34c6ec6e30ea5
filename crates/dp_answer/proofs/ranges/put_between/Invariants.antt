use Rattle.std.proofs.Common.{◌≡◌, ◌&&◌, ◌||◌, ℕ}
use Rattle.std.specs.Prelude.{nat_le, nat_lt}
use Rattle.dp_pieces.specs.Sets.{set_by}
use Rattle.dp_answer.proofs.ranges.put_between.Given as goal

abbrev pub invariant-loop-byte : goal.invariant-loop-byte
invariant-loop-byte l = (b : ℕ) → set_by l.set b ≡ ((nat_le l.low b && nat_lt b l.byte) || set_by l.fn.set b)
