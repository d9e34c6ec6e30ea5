use Rattle.std.proofs.Common.{◌≡◌, ◌++◌, take, drop, map}
use Rattle.dp_queue.specs.Agents.{idle_if_ringing}
use Rattle.dp_queue.proofs.agent.free_each.Given as goal

abbrev pub invariant-loop-agent : goal.invariant-loop-agent
invariant-loop-agent l = l.agents ≡ map (idle_if_ringing l.channel) (take l.agent-index l.initial.agents) ++ drop l.agent-index l.initial.agents
