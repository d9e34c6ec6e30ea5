use Rattle.std.proofs.Common.{◌≡◌, drop}
use Rattle.dp_pattern.specs.Order.{pattern_cmp}
use Rattle.dp_pattern.proofs.order.compare_patterns.Given as goal

abbrev pub invariant-loop-i : goal.invariant-loop-i
invariant-loop-i l =
    pattern_cmp (drop l.i l.left) l.left_tail (drop l.i l.right) l.right_tail ≡ pattern_cmp l.left l.left_tail l.right l.right_tail
