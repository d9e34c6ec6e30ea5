use Rattle.std.proofs.Common.{drop}
use Rattle.std.specs.List.{flat_map}
use Rattle.dp_audit.specs.Unset.{Adds, entry_sets}
use Rattle.dp_audit.specs.declared.unset_variables.SetNames.{SetNames}
use Rattle.dp_audit.proofs.unset_variables.SetNames.add_entries.Given as goal

abbrev pub invariant-loop-entry : goal.invariant-loop-entry
invariant-loop-entry l = (last : SetNames) → Adds l.self last (flat_map entry_sets (drop l.entry-index l.entries)) → Adds l.initial.self last (flat_map entry_sets l.entries)
