use Rattle.std.proofs.Common.{Ok, subst}
use Rattle.std.proofs.lemmas.Result.{err_from_is_err_and}
use Rattle.dp_machine.specs.World.{World, opening}
use Rattle.dp_commands.specs.Run.{Writes, run_on}
use Rattle.dp_commands.specs.Script.{turns_of}
use Rattle.dp_commands.proofs.TextsLemmas.{Writes_lacks, Writes_run}
use Rattle.dp_commands.proofs.run.run_contents.Goals as goal

-- the machine is that in which nothing has happened
pub returns-clause-writes : goal.returns-clause-writes
returns-clause-writes g c =
    let old = g.W.WriteTold.contents c.args.writer.now in
    let new = g.W.WriteTold.contents c.run_begun.new.writer in
    let turns = turns_of c.args.contents.lines.items in
    subst (λ (world : World). Writes old new (Ok (run_on world turns)) c.run_begun.result) c.in_ok-machine.ensures
    (Writes_run _ (Ok (run_on c.in_ok-machine.machine turns)) old new c.run_begun.result c.run_begun.ensures.writes)

-- memory ran out before the first turn
pub returns-in_err-machine-clause-writes : goal.returns-in_err-machine-clause-writes
returns-in_err-machine-clause-writes g c =
    let p = err_from_is_err_and c.from_residual.result c.from_residual.ensures.1 in
    rw (p.1, p.2) (Writes_lacks (g.W.WriteTold.contents c.args.writer.now) (Ok (run_on (opening c.args.contents.files.plan c.args.contents.files.queues) (turns_of c.args.contents.lines.items))))
