use Rattle.std.proofs.Common.{◌≡◌, ◌+◌, ◌++◌, drop}
use Rattle.dp_closed.specs.Shown.{shown_duties}
use Rattle.dp_closed.specs.Steps.{shown_parts}
use Rattle.dp_reach.specs.Bounds.{numbered_duties}
use Rattle.dp_closed.proofs.subroutines.push_arguments.Given as goal

abbrev pub invariant-loop-at : goal.invariant-loop-at
invariant-loop-at l =
    shown_duties l.duties.items ++ numbered_duties (l.at + 1) (shown_parts (drop l.at l.shapes)) ≡ shown_duties l.fn.duties.items ++ numbered_duties 1 (shown_parts l.shapes)
