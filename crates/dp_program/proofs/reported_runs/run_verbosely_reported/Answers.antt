use Rattle.std.proofs.lemmas.Result.{err_from_is_err_and}
use Rattle.dp_program.specs.Serves.{in_force_at_first, run_of_texts}
use Rattle.dp_program.specs.Texts.{paths_of, texts_of}
use Rattle.dp_program.proofs.ServesLemmas.{verbose_done}
use Rattle.dp_program.proofs.reported_runs.run_verbosely_reported.Goals as goal

-- memory ran out after the run
pub returns-in_err-hint-clause-runs : goal.returns-in_err-hint-clause-runs
returns-in_err-hint-clause-runs g c =
    let p = err_from_is_err_and c.from_residual-in_err-hint.result c.from_residual-in_err-hint.ensures.1 in
    rw (p.1, p.2)
    (verbose_done (in_force_at_first (paths_of c.args.files.now) (texts_of c.args.texts.now)) (g.W.WriteTold.contents c.args.output.now) (g.W.WriteTold.contents c.run_verbosely.new.output)
    (run_of_texts (texts_of c.args.texts.now)) c.in_ok-status.status c.in_ok-status.ensures.writes)
