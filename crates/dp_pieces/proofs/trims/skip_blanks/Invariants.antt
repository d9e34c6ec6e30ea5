use Rattle.std.proofs.Common.{◌≡◌, length}
use Rattle.dp_pieces.specs.Shown.{shown_all}
use Rattle.dp_pieces.specs.steps.Softened.{without_blanks}
use Rattle.dp_pieces.proofs.trims.skip_blanks.Given as goal

abbrev pub invariant-loop-first : goal.invariant-loop-first
invariant-loop-first l = without_blanks (shown_all l.left) ≡ without_blanks (shown_all l.fn.pieces)

abbrev pub decreases-loop-first : goal.decreases-loop-first
decreases-loop-first l = length l.left
