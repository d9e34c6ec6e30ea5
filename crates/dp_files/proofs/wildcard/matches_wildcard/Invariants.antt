use Rattle.std.proofs.Common.{length}
use Rattle.std.specs.Option.{option_map}
use Rattle.dp_files.specs.Wildcards.{matches}
use Rattle.dp_files.specs.steps.Wildcards.{star_now}
use Rattle.dp_files.proofs.WildcardsLemmas.{IsUnderway, work}
use Rattle.dp_files.proofs.wildcard.matches_wildcard.Given as goal

abbrev pub invariant-loop-left : goal.invariant-loop-left
invariant-loop-left l = IsUnderway (length l.fn.pattern) (length l.fn.text) (matches l.fn.pattern l.fn.text) (option_map star_now l.last) l.left l.name

abbrev pub decreases-loop-left : goal.decreases-loop-left
decreases-loop-left l = work (length l.fn.pattern) (length l.fn.text) l.left (option_map star_now l.last)
