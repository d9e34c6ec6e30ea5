use Rattle.dp_pieces.proofs.RuleLemmas.{IsKnownFront}
use Rattle.dp_pieces.proofs.cuts.cut_known.Given as goal

abbrev pub invariant-loop-at : goal.invariant-loop-at
invariant-loop-at l = IsKnownFront l.mark l.at l.pieces
