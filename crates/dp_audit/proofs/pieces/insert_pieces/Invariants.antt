use Rattle.dp_audit.proofs.PiecesLemmas.{Owes, left_len}
use Rattle.dp_audit.proofs.pieces.insert_pieces.Given as goal

abbrev pub invariant-loop-left : goal.invariant-loop-left
invariant-loop-left l = Owes l.initial.pieces.keys l.pieces.keys l.text l.left

abbrev pub decreases-loop-left : goal.decreases-loop-left
decreases-loop-left l = left_len l.left
