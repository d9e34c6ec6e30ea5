use Rattle.std.proofs.Common.{length}
use Rattle.dp_vars.proofs.PiecesLemmas.{IsOnWay}
use Rattle.dp_vars.proofs.parsing.parse.Given as goal

abbrev pub invariant-loop-mark : goal.invariant-loop-mark
invariant-loop-mark l = IsOnWay l.text l.parsing l.rest

abbrev pub decreases-loop-mark : goal.decreases-loop-mark
decreases-loop-mark l = length l.rest
