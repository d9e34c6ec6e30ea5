use Rattle.dp_audit.specs.steps.Hiding.{Grows, for_each, is_among}
use Rattle.dp_audit.proofs.HidingLemmas.{below}
use Rattle.dp_audit.proofs.hidden_entries.Hidings.ask_context.Given as goal

abbrev pub invariant-loop-entry : goal.invariant-loop-entry
invariant-loop-entry l = Grows l.initial.self l.self (below l.entry (for_each l.plan (is_among l.places.keys) l.number l.from))
