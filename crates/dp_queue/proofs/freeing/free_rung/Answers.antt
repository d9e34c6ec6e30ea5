use Rattle.std.proofs.Common.{sym, ◌∙◌, arith}
use Rattle.dp_queue.proofs.AgentLemmas.{all_freed-unrung}
use Rattle.dp_queue.proofs.freeing.free_rung.Goals as goal

pub returns-else-left-gt0 : goal.returns-else-left-gt0
returns-else-left-gt0 c =
    sym (all_freed-unrung c.args.channel c.free_members-left.new.agents (omega (arith, c.free_members-left.ensures.left, c.if-left-gt0.false)))
    ∙ c.free_members-left.ensures.agents
