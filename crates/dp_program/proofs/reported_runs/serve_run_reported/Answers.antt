use Rattle.std.proofs.lemmas.Result.{err_from_is_err_and}
use Rattle.dp_program.specs.Texts.{paths_of, sources_of, texts_of}
use Rattle.dp_program.proofs.ServesLemmas.{run_reported_read, run_reported_refused}
use Rattle.dp_program.proofs.reported_runs.serve_run_reported.Goals as goal

pub returns-in_err-texts-clause-serves : goal.returns-in_err-texts-clause-serves
returns-in_err-texts-clause-serves g c =
    let p = err_from_is_err_and c.from_residual.result c.from_residual.ensures.1 in
    rw (p.1, p.2) (run_reported_refused (paths_of c.args.run.files.now) (sources_of (g.F.ReadFiles.source_at c.args.files.now) (paths_of c.args.run.files.now)) c.args.run.is_verbose (g.W.WriteTold.contents c.args.output.now) _ c.in_err-texts.ensures.read)

-- the run is of the texts that were read
pub returns-clause-serves : goal.returns-clause-serves
returns-clause-serves g c =
    run_reported_read (paths_of c.args.run.files.now) (sources_of (g.F.ReadFiles.source_at c.args.files.now) (paths_of c.args.run.files.now)) c.args.run.is_verbose (g.W.WriteTold.contents c.args.output.now)
    (g.W.WriteTold.contents c.run_texts-answered.new.output) (texts_of c.in_ok-texts.texts) c.run_texts-answered.result c.placed_in_run.result c.in_ok-texts.ensures.read c.placed_in_run.ensures.same
    c.run_texts-answered.ensures.runs c.placed_in_run.ensures.stands c.run_texts-answered.ensures.tells
