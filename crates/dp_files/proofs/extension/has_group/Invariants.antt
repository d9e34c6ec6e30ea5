use Rattle.std.proofs.Common.{◌≡◌, length}
use Rattle.dp_files.specs.ContextHistory.{has_group}
use Rattle.dp_files.proofs.extension.has_group.Given as goal

abbrev pub invariant-loop-byte : goal.invariant-loop-byte
invariant-loop-byte l = has_group l.left ≡ has_group l.text

abbrev pub decreases-loop-byte : goal.decreases-loop-byte
decreases-loop-byte l = length l.left
