use Rattle.std.proofs.Common.{◌≡◌, length}
use Rattle.dp_vars.specs.Openings.{has_opening}
use Rattle.dp_vars.proofs.opening.holds_opening.Given as goal

abbrev pub invariant-loop-first : goal.invariant-loop-first
invariant-loop-first l = has_opening l.left ≡ has_opening l.text

abbrev pub decreases-loop-first : goal.decreases-loop-first
decreases-loop-first l = length l.left
