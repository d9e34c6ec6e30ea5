use Rattle.std.proofs.Common.{◌≡◌, ℕ, true, ◌<◌, ◌/◌}
use Rattle.dp_pieces.specs.Sets.{set_by}
use Rattle.dp_pieces.proofs.byte_set.ByteSet.is_part.Given as goal

abbrev pub invariant-loop-i : goal.invariant-loop-i
invariant-loop-i l = (b : ℕ) → b / 64 < l.i → set_by l.self-inside.words b ≡ true → set_by l.other-inside.words b ≡ true
