use Rattle.std.proofs.Common.{◌≡◌, length}
use Rattle.dp_plan.specs.EntryLine.{has_variable}
use Rattle.dp_plan.proofs.naming.has_variable.Given as goal

abbrev pub invariant-loop-byte : goal.invariant-loop-byte
invariant-loop-byte l = has_variable l.left ≡ has_variable l.text

abbrev pub decreases-loop-byte : goal.decreases-loop-byte
decreases-loop-byte l = length l.left
