use Rattle.std.proofs.Common.{◌≡◌, suc, true, refl, sym, ap, ◌∙◌, arith}
use Rattle.dp_queue.specs.Agents.{all_freed, rings_for, state_at}
use Rattle.dp_queue.specs.steps.Seats.{rung_count}
use Rattle.dp_queue.specs.declared.agent.AgentState.TheVariants.{Idle}
use Rattle.dp_queue.proofs.AgentLemmas.{all_freed-idle, rung-less}
use Rattle.dp_queue.proofs.freeing.free_one.Goals as goal

-- the agent rings for the channel
rings : (c : goal.After-set_state) → rings_for c.args.channel (state_at c.args.agents.now c.args.number) ≡ true
rings c =
    ap (λ xs. rings_for c.args.channel (state_at xs c.args.number)) (sym c.list.ensures) ∙ ap (rings_for c.args.channel) (sym c.state_at.ensures)
    ∙ sym c.rings_for.ensures ∙ c.if-rings_for.true

-- so it is one of those that are counted
less : (c : goal.After-set_state) → c.args.rung ≡ suc (rung_count c.set_state.new.self c.args.channel)
less c =
    c.requires ∙ rung-less c.args.number Idle c.args.agents.now c.args.channel refl (rings c)
    ∙ ap (λ xs. suc (rung_count xs c.args.channel)) (sym c.set_state.ensures)

pub overflow_sub-result : goal.overflow_sub-result
overflow_sub-result c = omega (arith, less c)

pub returns-then-rings_for-clause-agents : goal.returns-then-rings_for-clause-agents
returns-then-rings_for-clause-agents c =
    ap (all_freed c.args.channel) c.set_state.ensures ∙ all_freed-idle c.args.channel c.args.number c.args.agents.now (rings c)

pub returns-then-rings_for-clause-left : goal.returns-then-rings_for-clause-left
returns-then-rings_for-clause-left c = omega (arith, less c)
