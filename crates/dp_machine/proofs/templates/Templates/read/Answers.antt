use Rattle.dp_machine.specs.steps.Templates.{AreOf}
use Rattle.dp_machine.proofs.TemplatesLemmas.{goes-last}
use Rattle.dp_machine.proofs.templates.Templates.read.Goals as goal

pub returns : goal.returns
returns g c =
    goes-last (λ context held. AreOf context.entries held) c.args.contexts.now c.loop-context.left.now c.loop-context.held.items c.in_default.ensures.cases c.loop-context.invariant
