use Rattle.std.proofs.Common.{◌≡◌, take}
use Rattle.dp_audit.specs.steps.Hiding.{no_notes}
use Rattle.dp_audit.proofs.hidden_entries.Hidings.none.Given as goal

abbrev pub invariant-loop-context : goal.invariant-loop-context
invariant-loop-context l = l.notes.items ≡ no_notes (take l.context-index l.contexts)
