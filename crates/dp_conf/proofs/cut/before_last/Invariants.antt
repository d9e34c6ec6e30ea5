use Rattle.std.proofs.Common.{◌≡◌, length}
use Rattle.dp_conf.specs.Cut.{before_last}
use Rattle.dp_conf.proofs.cut.before_last.Given as goal

abbrev pub invariant-loop-last : goal.invariant-loop-last
invariant-loop-last l = before_last l.byte l.left ≡ before_last l.byte l.text

abbrev pub decreases-loop-last : goal.decreases-loop-last
decreases-loop-last l = length l.left
