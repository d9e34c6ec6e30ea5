use Rattle.std.proofs.Common.{◌<◌}
use Rattle.dp_audit.proofs.LeastLemmas.{IsLeastBelow}
use Rattle.dp_audit.proofs.loops.least_from.Given as goal

abbrev pub invariant-loop-number : goal.invariant-loop-number
invariant-loop-number l = record {
  after : l.fn.place < l.number;
  least : IsLeastBelow l.path l.fn.place l.number l.least;
}
