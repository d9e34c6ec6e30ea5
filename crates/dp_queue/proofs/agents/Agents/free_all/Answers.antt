use Rattle.std.proofs.Common.{ap, ◌∙◌}
use Rattle.dp_queue.specs.Agents.{names_of}
use Rattle.dp_queue.proofs.NameLemmas.{numbered-kept, names-freed}
use Rattle.dp_queue.proofs.agents.Agents.free_all.Goals as goal

pub invariant_of-self : goal.invariant_of-self
invariant_of-self c =
    let agents = c.self.inside.list.items in
    numbered-kept c.self.inside.numbers agents c.free_all.new.agents.items (ap names_of c.free_all.ensures ∙ names-freed c.args.channel agents) c.self.invariant
