use Rattle.dp_commands.specs.Run.{run_of_texts}
use Rattle.dp_commands.proofs.VerboseLemmas.{WritesVerbose_run, verbose_status}
use Rattle.dp_commands.proofs.verbose.run_in_force.Goals as goal

-- the turns are taken with more text above their lines
pub returns-clause-writes : goal.returns-clause-writes
returns-clause-writes g c =
    WritesVerbose_run g.E.Explanations.explanation_of c.args.taker (run_of_texts c.args.texts) (g.W.WriteTold.contents c.args.writer.now)
    (g.W.WriteTold.contents c.run_texts.new.writer) c.run_texts.result c.run_texts.ensures.writes

-- and each is refused if it is refused in a plain run
pub returns-clause-status : goal.returns-clause-status
returns-clause-status g c =
    verbose_status g.E.Explanations.explanation_of c.args.taker (run_of_texts c.args.texts) (g.W.WriteTold.contents c.args.writer.now)
    (g.W.WriteTold.contents c.run_texts.new.writer) c.run_texts.result
    (WritesVerbose_run g.E.Explanations.explanation_of c.args.taker (run_of_texts c.args.texts) (g.W.WriteTold.contents c.args.writer.now)
    (g.W.WriteTold.contents c.run_texts.new.writer) c.run_texts.result c.run_texts.ensures.writes)
