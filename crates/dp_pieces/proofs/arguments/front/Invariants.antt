use Rattle.std.proofs.Common.{◌≡◌, ◌++◌}
use Rattle.dp_pieces.specs.Pieces.{front}
use Rattle.dp_pieces.specs.Shown.{shown_all}
use Rattle.dp_pieces.proofs.arguments.front.Given as goal

abbrev pub invariant-loop-count : goal.invariant-loop-count
invariant-loop-count l = shown_all l.kept.items ++ front l.count (shown_all l.left) ≡ front l.fn.count (shown_all l.fn.pieces)

abbrev pub decreases-loop-count : goal.decreases-loop-count
decreases-loop-count l = l.count
