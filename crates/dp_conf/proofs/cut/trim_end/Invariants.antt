use Rattle.std.proofs.Common.{◌≡◌, length}
use Rattle.dp_conf.specs.Blanks.{trim_end}
use Rattle.dp_conf.proofs.cut.trim_end.Given as goal

abbrev pub invariant-loop-last : goal.invariant-loop-last
invariant-loop-last l = trim_end l.left ≡ trim_end l.fn.text

abbrev pub decreases-loop-last : goal.decreases-loop-last
decreases-loop-last l = length l.left
