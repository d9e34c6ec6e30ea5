use Rattle.std.proofs.Common.{◌≡◌, drop}
use Rattle.std.specs.FinMap.{empty}
use Rattle.dp_notices.specs.GroupNames.{known_after}
use Rattle.dp_notices.proofs.group_names.known_globals.Given as goal

abbrev pub invariant-loop-variable : goal.invariant-loop-variable
invariant-loop-variable l = known_after l.globals (drop l.variable-index l.variables) ≡ known_after empty l.variables
