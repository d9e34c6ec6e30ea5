use Rattle.std.proofs.Common.{drop}
use Rattle.std.specs.List.{flat_map}
use Rattle.dp_wide_runs.specs.Mentions.{Adds, context_mentions}
use Rattle.dp_wide_runs.specs.declared.mentions.Mentions.{Mentions}
use Rattle.dp_wide_runs.proofs.mentions.Mentions.add_contexts.Given as goal

abbrev pub invariant-loop-context : goal.invariant-loop-context
invariant-loop-context l =
    (last : Mentions) → Adds l.self last (flat_map context_mentions (drop l.context-index l.contexts)) → Adds l.initial.self last (flat_map context_mentions l.contexts)
