use Rattle.std.proofs.Common.{length}
use Rattle.dp_pieces.specs.ShapeSteps.{AlwaysFits}
use Rattle.dp_pieces.specs.Shown.{shown_all}
use Rattle.dp_pieces.proofs.shapes.within.is_within.Given as goal

abbrev pub invariant-loop-wide : goal.invariant-loop-wide
invariant-loop-wide l = AlwaysFits (shown_all l.left) (shown_all l.right) → AlwaysFits (shown_all l.pieces) (shown_all l.other)

abbrev pub decreases-loop-wide : goal.decreases-loop-wide
decreases-loop-wide l = length l.right
