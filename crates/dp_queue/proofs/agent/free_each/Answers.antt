use Rattle.std.proofs.Common.{ap, ◌∙◌, sym, set}
use Rattle.std.proofs.lemmas.List.Edits.{map_over_more}
use Rattle.dp_queue.specs.Agents.{idle_if_ringing, freed_state}
use Rattle.dp_queue.specs.declared.agent.Agent.{Agent}
use Rattle.dp_queue.proofs.agent.free_each.Goals as goal

pub loop-agent-preserved : goal.loop-agent-preserved
loop-agent-preserved c =
    let state = c.state_without_call-agent.ensures ∙ ap (λ (a : Agent). freed_state c.args.channel a.state) (sym c.agent-item.is) in
    (λ i. set c.loop-agent.agents c.loop-agent.agent-index (record { name = (sym c.agent-item.is i).name; state = state i }))
    ∙ map_over_more (idle_if_ringing c.args.channel) c.args.agents.now c.loop-agent.agents c.loop-agent.agent-index c.agent-item.result
    c.loop-agent-test.true c.loop-agent.invariant c.agent-item.is
