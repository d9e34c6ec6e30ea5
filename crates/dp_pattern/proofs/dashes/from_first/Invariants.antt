use Rattle.std.proofs.Common.{◌≡◌, length}
use Rattle.dp_pattern.specs.Dashes.{from_first}
use Rattle.dp_pattern.proofs.dashes.from_first.Given as goal

abbrev pub invariant-loop-after : goal.invariant-loop-after
invariant-loop-after l = from_first l.rest ≡ from_first l.fn.text

abbrev pub decreases-loop-after : goal.decreases-loop-after
decreases-loop-after l = length l.rest
