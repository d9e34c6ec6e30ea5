use Rattle.dp_machine.specs.steps.Templates.{IsOf}
use Rattle.dp_machine.proofs.TemplatesLemmas.{goes-last}
use Rattle.dp_machine.proofs.templates.ContextTemplates.read.Goals as goal

pub returns : goal.returns
returns g c =
    goes-last IsOf c.args.entries.now c.loop-entry.left.now c.loop-entry.held.items c.in_default.ensures.cases c.loop-entry.invariant
