use Rattle.std.proofs.Common.{length}
use Rattle.dp_wide_runs.specs.Mentions.{Adds, names_after, names_in}
use Rattle.dp_wide_runs.specs.declared.mentions.Mentions.{Mentions}
use Rattle.dp_wide_runs.proofs.mentions.Mentions.add_names.Given as goal

abbrev pub invariant-loop-byte : goal.invariant-loop-byte
invariant-loop-byte l = (last : Mentions) → Adds l.self last (names_after l.before l.left) → Adds l.initial.self last (names_in l.text)

abbrev pub decreases-loop-byte : goal.decreases-loop-byte
decreases-loop-byte l = length l.left
