use Rattle.std.proofs.Common.{◌≡◌, take}
use Rattle.dp_audit.specs.steps.Marks.{no_marks}
use Rattle.dp_audit.proofs.marks.EntryMarks.none.Given as goal

abbrev pub invariant-loop-context : goal.invariant-loop-context
invariant-loop-context l = l.marks.items ≡ no_marks (take l.context-index l.contexts)
