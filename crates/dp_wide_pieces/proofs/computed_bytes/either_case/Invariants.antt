use Rattle.std.proofs.Common.{◌≡◌, ◌||◌, ◌&&◌, ℕ}
use Rattle.std.specs.Prelude.{nat_lt}
use Rattle.dp_pieces.specs.Sets.{set_by}
use Rattle.dp_wide_pieces.specs.FunctionBytes as spec
use Rattle.dp_wide_pieces.proofs.computed_bytes.either_case.Given as goal

abbrev pub invariant-loop-byte : goal.invariant-loop-byte
invariant-loop-byte l = (b : ℕ) → set_by l.bytes b ≡ (set_by l.set b || (nat_lt b l.byte && spec.other_case (set_by l.set) b))
