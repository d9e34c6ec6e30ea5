use Rattle.std.proofs.Common.{length}
use Rattle.dp_machine.specs.steps.Templates.{AreOf}
use Rattle.dp_machine.proofs.TemplatesLemmas.{Goes}
use Rattle.dp_machine.proofs.templates.Templates.read.Given as goal

abbrev pub invariant-loop-context : goal.invariant-loop-context
invariant-loop-context g l = Goes (λ context held. AreOf context.entries held) l.contexts l.left l.held.items

abbrev pub decreases-loop-context : goal.decreases-loop-context
decreases-loop-context g l = length l.left
