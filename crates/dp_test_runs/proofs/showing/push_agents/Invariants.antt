use Rattle.std.proofs.Common.{◌≡◌, ◌++◌, drop}
use Rattle.std.specs.List.{flat_map}
use Rattle.dp_test_runs.specs.Shown.{agent_shown}
use Rattle.dp_test_runs.proofs.showing.push_agents.Given as goal

abbrev pub invariant-loop-agent : goal.invariant-loop-agent
invariant-loop-agent l =
    l.out.items ++ flat_map (agent_shown l.channel) (drop l.agent-index l.agents) ≡ l.fn.out.items ++ flat_map (agent_shown l.channel) l.agents
