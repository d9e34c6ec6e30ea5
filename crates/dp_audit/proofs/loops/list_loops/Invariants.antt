use Rattle.std.proofs.Common.{◌≡◌}
use Rattle.std.specs.List.{flat_map, range_with_len}
use Rattle.dp_audit.specs.Loops.{loops_of_context}
use Rattle.dp_audit.specs.steps.Marks.{is_marked}
use Rattle.dp_audit.proofs.loops.list_loops.Given as goal

abbrev pub invariant-loop-number : goal.invariant-loop-number
invariant-loop-number l = l.list.items ≡ flat_map (loops_of_context (is_marked l.firsts) l.plan) (range_with_len 0 l.number)
