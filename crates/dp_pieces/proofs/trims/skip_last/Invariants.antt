use Rattle.std.proofs.Common.{◌≡◌, length}
use Rattle.dp_pieces.specs.Shown.{shown_all}
use Rattle.dp_pieces.specs.steps.Softened.{without_last}
use Rattle.dp_pieces.proofs.trims.skip_last.Given as goal

abbrev pub invariant-loop-last : goal.invariant-loop-last
invariant-loop-last l = without_last (shown_all l.left) ≡ without_last (shown_all l.fn.pieces)

abbrev pub decreases-loop-last : goal.decreases-loop-last
decreases-loop-last l = length l.left
