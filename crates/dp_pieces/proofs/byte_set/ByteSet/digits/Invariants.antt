use Rattle.std.proofs.Common.{◌≡◌, ◌&&◌, ℕ}
use Rattle.std.specs.Prelude.{nat_le, nat_lt}
use Rattle.dp_pieces.specs.Sets.{set_by}
use Rattle.dp_pieces.proofs.byte_set.ByteSet.digits.Given as goal

abbrev pub invariant-loop-digit : goal.invariant-loop-digit
invariant-loop-digit l = (b : ℕ) → set_by l.set b ≡ (nat_le 48 b && nat_lt b l.digit)
