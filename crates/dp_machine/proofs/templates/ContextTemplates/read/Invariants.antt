use Rattle.std.proofs.Common.{length}
use Rattle.dp_machine.specs.steps.Templates.{IsOf}
use Rattle.dp_machine.proofs.TemplatesLemmas.{Goes}
use Rattle.dp_machine.proofs.templates.ContextTemplates.read.Given as goal

abbrev pub invariant-loop-entry : goal.invariant-loop-entry
invariant-loop-entry g l = Goes IsOf l.entries l.left l.held.items

abbrev pub decreases-loop-entry : goal.decreases-loop-entry
decreases-loop-entry g l = length l.left
