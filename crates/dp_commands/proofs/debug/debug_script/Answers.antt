use Rattle.std.proofs.Common.{Result, Ok, subst, sym}
use Rattle.dp_conf.specs.Answers.{◌>>=◌}
use Rattle.dp_debug.specs.declared.breaks.Break.{Break}
use Rattle.dp_commands.specs.Debug.{WritesDebug, debug_of, debug_on, debug_turn, end_text}
use Rattle.dp_commands.specs.Run.{run_of_texts, status_by}
use Rattle.dp_commands.specs.steps.Texts.{WritesRun}
use Rattle.dp_commands.specs.declared.fault.PbxFault.{PbxFault}
use Rattle.dp_commands.proofs.TextsLemmas.{WritesDebug_run}
use Rattle.dp_commands.proofs.debug.debug_script.Goals as goal

-- the turns are taken under a debugger with the break that was read
pub returns-clause-writes : goal.returns-clause-writes
unfolding debug_of
returns-clause-writes g c =
    let old = g.W.WriteTold.contents c.args.writer.now in
    let new = g.W.WriteTold.contents c.run_texts.new.writer in
    let run = run_of_texts c.args.texts in
    let held = c.in_ok-held.held in
    subst (λ (found : Result Break PbxFault). WritesDebug old new (found >>= λ it. run >>= λ all. Ok (debug_on it all)) c.run_texts.result) (sym c.in_ok-held.ensures.held)
    (WritesDebug_run held run old new c.run_texts.result
    (subst (λ watch. WritesRun debug_turn (λ at. end_text at.0) (λ at refused. status_by refused) watch old new run c.run_texts.result) c.watch-watched.ensures c.run_texts.ensures.writes))
