use Rattle.std.proofs.Common.{◌≡◌, ◌++◌}
use Rattle.std.specs.List.{flat_map}
use Rattle.dp_plan.specs.Ranking.{numbers_of}
use Rattle.dp_audit.specs.Loops.{loop_if}
use Rattle.dp_audit.specs.steps.Marks.{is_marked}
use Rattle.dp_audit.proofs.loops.push_of_context.Given as goal

abbrev pub invariant-loop-entry : goal.invariant-loop-entry
invariant-loop-entry l = l.list.items ≡ l.fn.list.items ++ flat_map (loop_if (is_marked l.firsts)) (numbers_of l.number l.entry)
