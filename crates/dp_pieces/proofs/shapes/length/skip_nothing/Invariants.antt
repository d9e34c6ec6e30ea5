use Rattle.std.proofs.Common.{◌≤◌, length}
use Rattle.dp_pieces.specs.ShapeSteps.{AreTextsOf}
use Rattle.dp_pieces.specs.Shown.{shown_all}
use Rattle.dp_pieces.proofs.shapes.length.skip_nothing.Given as goal

abbrev pub invariant-loop-piece : goal.invariant-loop-piece
invariant-loop-piece l = record { same : AreTextsOf (shown_all l.left) (shown_all l.fn.pieces); shorter : length l.left ≤ length l.fn.pieces }

abbrev pub decreases-loop-piece : goal.decreases-loop-piece
decreases-loop-piece l = length l.left
