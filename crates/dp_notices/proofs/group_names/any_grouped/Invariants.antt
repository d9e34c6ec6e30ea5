use Rattle.std.proofs.Common.{◌≡◌, false, drop}
use Rattle.dp_notices.specs.GroupNames.{any_grouped}
use Rattle.dp_notices.proofs.group_names.any_grouped.Given as goal

abbrev pub invariant-loop-line : goal.invariant-loop-line
invariant-loop-line l = any_grouped l.within (drop l.line-index l.lines) ≡ any_grouped false l.lines
