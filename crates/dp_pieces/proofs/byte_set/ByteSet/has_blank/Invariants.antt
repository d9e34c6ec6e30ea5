use Rattle.std.proofs.Common.{◌≡◌, false}
use Rattle.dp_pieces.specs.Bytes.{has_blank_below}
use Rattle.dp_pieces.specs.Sets.{set_by}
use Rattle.dp_pieces.proofs.byte_set.ByteSet.has_blank.Given as goal

abbrev pub invariant-loop-byte : goal.invariant-loop-byte
invariant-loop-byte l = has_blank_below l.byte (set_by l.self) ≡ false
