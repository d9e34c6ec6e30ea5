use Rattle.dp_program.proofs.ServesLemmas.{both_check_refused}
use Rattle.dp_program.proofs.including.check_both_read.Goals as goal

-- the dialplan was not read
pub returns-in-Err-default-clause-writes : goal.returns-in-Err-default-clause-writes
returns-in-Err-default-clause-writes g c plan queues plan-is queues-is =
    rw (c.unread_file-in-Err-default.ensures.fault, c.unread_file-in-Err-default.ensures.place)
    (both_check_refused c.args.is_json c.args.paths.now.plan.now c.args.paths.now.queues.now (g.W.WriteTold.contents c.args.output.now) queues c.in-Err-default.fault plan
    (rw c.in-Err-default.is-0 at plan-is))
