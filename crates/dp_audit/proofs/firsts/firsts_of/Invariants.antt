use Rattle.std.proofs.Common.{[], take}
use Rattle.dp_audit.specs.Findings.{some_first}
use Rattle.dp_audit.specs.steps.Firsts.{Adds}
use Rattle.dp_audit.proofs.firsts.firsts_of.Given as goal

abbrev pub invariant-loop-number : goal.invariant-loop-number
invariant-loop-number l = Adds (some_first l.plan (take l.number-index l.order)) [] l.names.keys
