use Rattle.std.proofs.Common.{length}
use Rattle.dp_conf.proofs.ToldLemmas.{GoesOn}
use Rattle.dp_conf.proofs.told.write_left.Given as goal

abbrev pub invariant-loop-left : goal.invariant-loop-left
invariant-loop-left g l = GoesOn (g.W.Write.contents l.fn.writer) (g.W.Write.contents l.writer) l.bytes l.left

abbrev pub decreases-loop-left : goal.decreases-loop-left
decreases-loop-left g l = length l.left
