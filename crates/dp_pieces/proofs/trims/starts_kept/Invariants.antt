use Rattle.std.proofs.Common.{◌≡◌, length}
use Rattle.dp_pieces.specs.Shown.{shown_all}
use Rattle.dp_pieces.specs.Trimmed.{starts_kept}
use Rattle.dp_pieces.proofs.trims.starts_kept.Given as goal

abbrev pub invariant-loop-first : goal.invariant-loop-first
invariant-loop-first l = starts_kept (shown_all l.left) ≡ starts_kept (shown_all l.fn.pieces)

abbrev pub decreases-loop-first : goal.decreases-loop-first
decreases-loop-first l = length l.left
