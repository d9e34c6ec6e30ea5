use Rattle.dp_machine.proofs.ServedLemmas.{done-makes}
use Rattle.dp_machine.proofs.agents.agent_done.Goals as goal

pub returns : goal.returns
returns c =
    done-makes c.args.exchange.now c.part.new.plan c.args.channels.now.items c.part.new.channels.items c.args.agent.now c.in-Some.call
    c.done-call.new.self c.done-call.result c.in_ok-part.ensures.same c.done-call.ensures c.in-Some.ensures c.in_ok-part.ensures.row
