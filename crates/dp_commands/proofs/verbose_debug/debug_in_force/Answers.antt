use Rattle.dp_commands.specs.Run.{run_of_texts}
use Rattle.dp_commands.proofs.VerboseLemmas.{WritesVerboseDebug_run, verbose_debug_status}
use Rattle.dp_commands.specs.Verbose.{debug_with}
use Rattle.dp_commands.proofs.verbose_debug.debug_in_force.Goals as goal

-- the turns are taken under a debugger, with more text above their lines
pub returns-clause-writes : goal.returns-clause-writes
returns-clause-writes g c =
    WritesVerboseDebug_run g.E.Explanations.explanation_of c.args.in_force c.args.held (run_of_texts c.args.texts) (g.W.WriteTold.contents c.args.writer.now)
    (g.W.WriteTold.contents c.run_texts.new.writer) c.run_texts.result c.run_texts.ensures.writes

-- and each is refused if it is refused in a plain debugged run
pub returns-clause-status : goal.returns-clause-status
returns-clause-status g c =
    verbose_debug_status g.E.Explanations.explanation_of c.args.in_force (debug_with c.args.held (run_of_texts c.args.texts)) (g.W.WriteTold.contents c.args.writer.now)
    (g.W.WriteTold.contents c.run_texts.new.writer) c.run_texts.result
    (WritesVerboseDebug_run g.E.Explanations.explanation_of c.args.in_force c.args.held (run_of_texts c.args.texts) (g.W.WriteTold.contents c.args.writer.now)
    (g.W.WriteTold.contents c.run_texts.new.writer) c.run_texts.result c.run_texts.ensures.writes)
