use Rattle.dp_machine.proofs.TieEvents.{good-fresh}
use Rattle.dp_machine.proofs.machine.Machine.restart.Goals as goal

-- nothing has happened with these queues
pub invariant_of-self-2 : goal.invariant_of-self-2
invariant_of-self-2 g c =
    good-fresh g.T.Functions.Functions.table _ c.args.queues c.restart.new.self c.new.result.items c.new.ensures.items c.in_ok-restart.ensures.ok
    c.requires c.show_good.ensures

pub returns-clause-good : goal.returns-clause-good
returns-clause-good g c = invariant_of-self-2 g c
