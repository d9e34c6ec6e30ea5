use Rattle.std.proofs.Common.{◌≡◌, ℕ, ◌<◌, ◌≤◌, ◌/◌}
use Rattle.dp_pieces.specs.Bytes.{both}
use Rattle.dp_pieces.specs.Sets.{set_by}
use Rattle.dp_pieces.proofs.byte_set.ByteSet.keep.Given as goal

abbrev pub invariant-loop-i : goal.invariant-loop-i
invariant-loop-i l = record {
  below : (b : ℕ) → b / 64 < l.i → set_by l.self-inside.words b ≡ both (set_by l.initial.self-inside.words) (set_by l.other-inside.words) b;
  above : (b : ℕ) → l.i ≤ b / 64 → set_by l.self-inside.words b ≡ set_by l.initial.self-inside.words b;
}
