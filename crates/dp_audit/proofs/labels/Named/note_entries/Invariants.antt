use Rattle.std.proofs.Common.{drop}
use Rattle.std.specs.List.{flat_map, list_any}
use Rattle.dp_audit.specs.Labels.{Notes, computes, names}
use Rattle.dp_audit.specs.declared.labels.Named.{Named}
use Rattle.dp_audit.proofs.labels.Named.note_entries.Given as goal

abbrev pub invariant-loop-entry : goal.invariant-loop-entry
invariant-loop-entry l =
    (last : Named) → Notes l.self last (list_any computes (drop l.entry-index l.entries)) (flat_map names (drop l.entry-index l.entries))
    → Notes l.initial.self last (list_any computes l.entries) (flat_map names l.entries)
