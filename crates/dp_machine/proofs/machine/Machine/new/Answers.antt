use Rattle.dp_machine.proofs.TieEvents.{good-fresh}
use Rattle.dp_machine.proofs.machine.Machine.new.Goals as goal

pub invariant_of-result : goal.invariant_of-result
invariant_of-result g c =
    good-fresh g.T.Functions.Functions.table c.args.plan c.args.queues c.in_ok-exchange.exchange c.new.result.items c.new.ensures.items c.in_ok-exchange.ensures c.requires
    c.show_good.ensures
