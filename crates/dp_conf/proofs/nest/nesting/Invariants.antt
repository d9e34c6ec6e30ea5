use Rattle.std.proofs.Common.{◌≡◌, length}
use Rattle.dp_conf.specs.GroupsRead.{levels, nesting_of}
use Rattle.dp_conf.specs.steps.Nest.{kinds_of}
use Rattle.dp_conf.proofs.NestLemmas.{nesting_to_come}
use Rattle.dp_conf.proofs.nest.nesting.Given as goal

abbrev pub invariant-loop-mark : goal.invariant-loop-mark
invariant-loop-mark l = nesting_to_come l.nest.waiting l.nest.deepest (levels l.rest (kinds_of l.nest.waiting) 0) ≡ nesting_of l.text

abbrev pub decreases-loop-mark : goal.decreases-loop-mark
decreases-loop-mark l = length l.rest
