use Rattle.std.proofs.Common.{◌≡◌, drop}
use Rattle.dp_notices.specs.Loading.{without_faulty}
use Rattle.dp_notices.proofs.loading.empty_lines.Given as goal

abbrev pub invariant-loop-fault : goal.invariant-loop-fault
invariant-loop-fault l = without_faulty (drop l.fault-index l.faults) l.lines.items ≡ without_faulty l.faults l.fn.lines.items
