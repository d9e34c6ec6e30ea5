use Rattle.dp_table.specs.Standard.{standard_meanings}
use Rattle.dp_commands.proofs.ThreadsLemmas.{misses-none}
use Rattle.dp_commands.proofs.threads.settled_history.Goals as goal

-- every seat is handed in
pub settle_fault-requires : goal.settle_fault-requires
settle_fault-requires g c =
    misses-none standard_meanings g.S.Session.opening c.args.board c.args.seats.items c.in-Err.unsettled.fault c.in-Err.unsettled.back c.requires c.in-Err.ensures.err
