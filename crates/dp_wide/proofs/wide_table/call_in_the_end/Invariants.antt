use Rattle.std.proofs.Common.{◌≡◌}
use Rattle.dp_wide.specs.Wide.{call_in_the_end}
use Rattle.dp_wide.proofs.wide_table.call_in_the_end.Given as goal

-- following the rest gives the same
abbrev pub invariant-loop-left : goal.invariant-loop-left
invariant-loop-left l = call_in_the_end 8 l.fn.name l.fn.arguments ≡ call_in_the_end l.left l.name l.arguments

abbrev pub decreases-loop-left : goal.decreases-loop-left
decreases-loop-left l = l.left
