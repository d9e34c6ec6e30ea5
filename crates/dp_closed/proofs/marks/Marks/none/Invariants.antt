use Rattle.std.proofs.Common.{◌≡◌, ◌++◌, drop, map}
use Rattle.dp_closed.proofs.MarkLemmas.{bits_of, empty_row}
use Rattle.dp_closed.proofs.marks.Marks.none.Given as goal

abbrev pub invariant-loop-context : goal.invariant-loop-context
invariant-loop-context l = map bits_of l.rows.items ++ map empty_row (drop l.context-index l.plan.contexts) ≡ map empty_row l.plan.contexts
