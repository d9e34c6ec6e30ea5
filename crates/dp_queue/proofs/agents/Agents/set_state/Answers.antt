use Rattle.std.proofs.Common.{ap, ◌∙◌}
use Rattle.dp_queue.specs.Agents.{names_of}
use Rattle.dp_queue.proofs.NameLemmas.{numbered-kept, names-set}
use Rattle.dp_queue.proofs.agents.Agents.set_state.Goals as goal

pub invariant_of-self : goal.invariant_of-self
invariant_of-self c =
    let agents = c.self.inside.list.items in
    numbered-kept c.self.inside.numbers agents c.set_state.new.agents.items
    (ap names_of c.set_state.ensures ∙ names-set c.args.number c.args.state agents) c.self.invariant
