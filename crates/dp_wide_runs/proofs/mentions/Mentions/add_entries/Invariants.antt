use Rattle.std.proofs.Common.{drop}
use Rattle.std.specs.List.{flat_map}
use Rattle.dp_wide_runs.specs.Mentions.{Adds, entry_mentions}
use Rattle.dp_wide_runs.specs.declared.mentions.Mentions.{Mentions}
use Rattle.dp_wide_runs.proofs.mentions.Mentions.add_entries.Given as goal

abbrev pub invariant-loop-entry : goal.invariant-loop-entry
invariant-loop-entry l =
    (last : Mentions) → Adds l.self last (flat_map entry_mentions (drop l.entry-index l.entries)) → Adds l.initial.self last (flat_map entry_mentions l.entries)
