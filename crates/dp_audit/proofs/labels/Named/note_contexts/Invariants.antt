use Rattle.std.proofs.Common.{drop}
use Rattle.std.specs.List.{flat_map, list_any}
use Rattle.dp_audit.specs.Labels.{Notes, computes, entries_in, names}
use Rattle.dp_audit.specs.declared.labels.Named.{Named}
use Rattle.dp_audit.proofs.labels.Named.note_contexts.Given as goal

abbrev pub invariant-loop-context : goal.invariant-loop-context
invariant-loop-context l =
    (last : Named)
    → Notes l.self last (list_any computes (entries_in (drop l.context-index l.contexts))) (flat_map names (entries_in (drop l.context-index l.contexts)))
    → Notes l.initial.self last (list_any computes (entries_in l.contexts)) (flat_map names (entries_in l.contexts))
