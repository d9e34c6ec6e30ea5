use Rattle.std.proofs.Common.{◌≡◌, length}
use Rattle.dp_pieces.specs.Shown.{shown_all}
use Rattle.dp_wide_duties.specs.Options.{are_unsure}
use Rattle.dp_wide_duties.proofs.options.are_unsure.Given as goal

abbrev pub invariant-loop-first : goal.invariant-loop-first
invariant-loop-first l = are_unsure (shown_all l.left) ≡ are_unsure (shown_all l.fn.pieces)

abbrev pub decreases-loop-first : goal.decreases-loop-first
decreases-loop-first l = length l.left
