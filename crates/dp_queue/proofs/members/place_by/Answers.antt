use Rattle.std.proofs.Common.{◌∙◌, sym}
use Rattle.dp_queue.proofs.HeldLemmas.{position-at}
use Rattle.dp_queue.proofs.members.place_by.Goals as goal

pub returns-then-is_agent_at : goal.returns-then-is_agent_at
returns-then-is_agent_at c = position-at c.args.agent c.args.members.now c.args.hint c.requires (sym c.is_agent_at.ensures ∙ c.if-is_agent_at.true)
