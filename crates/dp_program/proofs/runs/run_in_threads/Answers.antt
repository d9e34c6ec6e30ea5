use Rattle.std.proofs.Common.{Ok, max, subst}
use Rattle.dp_commands.specs.Threads.{Shares}
use Rattle.dp_program.proofs.runs.run_in_threads.Goals as goal

-- the borrowed texts are those of the files
pub returns-clause-shares : goal.returns-clause-shares
returns-clause-shares g c =
    let old = g.W.WriteTold.contents c.args.output.now in
    let new = g.W.WriteTold.contents c.run_threads.new.writer in
    rw c.status_of.ensures (record {
      history = c.in_ok-ran.ran.1;
      shares = subst (λ run. Shares (max 1 c.args.threads) old new run (Ok c.in_ok-ran.ran)) c.lend.ensures.run c.in_ok-ran.ensures.shares;
    })
