use Rattle.std.proofs.Common.{◌≡◌, length}
use Rattle.dp_pieces.specs.Cuts.{cut_last}
use Rattle.dp_pieces.specs.Shown.{shown_all}
use Rattle.dp_pieces.proofs.cuts.cut_last.Given as goal

abbrev pub invariant-loop-last : goal.invariant-loop-last
invariant-loop-last l = cut_last l.mark (shown_all l.left) ≡ cut_last l.mark (shown_all l.pieces)

abbrev pub decreases-loop-last : goal.decreases-loop-last
decreases-loop-last l = length l.left
