use Rattle.dp_commands.specs.Script.{turns_of}
use Rattle.dp_wide_runs.specs.Debugging.{debug_with}
use Rattle.dp_wide_runs.specs.Runs.{run_of_texts}
use Rattle.dp_wide_runs.proofs.DebugLemmas.{debugged_run, debugged_status}
use Rattle.dp_wide_runs.proofs.debug.debug_texts.Goals as goal

-- a turn is refused, and a step is not taken, exactly if it is so in the run without a break
pub returns-clause-status : goal.returns-clause-status
returns-clause-status g c =
    debugged_status g.M.Manner.after g.M.Manner.above g.M.Manner.above_refusal c.args.manner (debug_with c.args.held (run_of_texts c.args.texts))
    (g.W.WriteTold.contents c.args.writer.now) (g.W.WriteTold.contents c.run_begun.new.writer) c.run_begun.result
    (debugged_run g.M.Manner.after g.M.Manner.above g.M.Manner.above_refusal c.args.manner c.args.held (run_of_texts c.args.texts)
    c.without_shows.result.machine c.in_ok-begun.begun.machine (turns_of c.without_shows.result.lines.items) (turns_of c.in_ok-begun.begun.lines.items) c.new.result
    (g.W.WriteTold.contents c.args.writer.now) (g.W.WriteTold.contents c.run_begun.new.writer) c.run_begun.result
    c.in_ok-begun.ensures.run c.without_shows.ensures.machine c.without_shows.ensures.turns c.new.ensures c.run_begun.ensures.writes)
