use Rattle.std.proofs.Common.{◌≡◌}
use Rattle.dp_pieces.specs.Pieces.{without}
use Rattle.dp_pieces.specs.Shown.{shown_all}
use Rattle.dp_pieces.proofs.arguments.without.Given as goal

abbrev pub invariant-loop-count : goal.invariant-loop-count
invariant-loop-count l = without l.count (shown_all l.left) ≡ without l.fn.count (shown_all l.fn.pieces)

abbrev pub decreases-loop-count : goal.decreases-loop-count
decreases-loop-count l = l.count
