use Rattle.std.proofs.Common.{length}
use Rattle.dp_pieces.specs.Pieces.{Fits}
use Rattle.dp_pieces.specs.Shown.{shown_all}
use Rattle.dp_pieces.proofs.shapes.fitting.may_fit.Given as goal

abbrev pub invariant-loop-piece : goal.invariant-loop-piece
invariant-loop-piece l = Fits (shown_all l.fn.pieces) l.fn.text → Fits (shown_all l.left) l.rest

abbrev pub decreases-loop-piece : goal.decreases-loop-piece
decreases-loop-piece l = length l.left
