use Rattle.std.proofs.Common.{◌≡◌, [], length}
use Rattle.dp_wide.specs.Brackets.{has_counted}
use Rattle.dp_wide.proofs.brackets.reads.Given as goal

abbrev pub invariant-loop-byte : goal.invariant-loop-byte
invariant-loop-byte l = has_counted l.left l.open 0 ≡ has_counted l.text [] 0

abbrev pub decreases-loop-byte : goal.decreases-loop-byte
decreases-loop-byte l = length l.left
