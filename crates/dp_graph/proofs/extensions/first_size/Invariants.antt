use Rattle.std.proofs.Common.{◌≡◌, ◌+◌, drop}
use Rattle.dp_audit.specs.Candidates.{first_size}
use Rattle.dp_graph.proofs.extensions.first_size.Given as goal

abbrev pub invariant-loop-place : goal.invariant-loop-place
invariant-loop-place l = l.place + first_size l.plan (drop l.place l.ids) ≡ first_size l.plan l.ids
