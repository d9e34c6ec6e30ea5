use Rattle.std.proofs.Common.{◌≡◌, ◌++◌, length}
use Rattle.dp_pieces.specs.Shown.{shown_all}
use Rattle.dp_wide_duties.specs.Options.{with_commas}
use Rattle.dp_wide_duties.proofs.options.with_commas.Given as goal

abbrev pub invariant-loop-first : goal.invariant-loop-first
invariant-loop-first l = shown_all l.text.items ++ with_commas (shown_all l.left) ≡ with_commas (shown_all l.fn.pieces)

abbrev pub decreases-loop-first : goal.decreases-loop-first
decreases-loop-first l = length l.left
