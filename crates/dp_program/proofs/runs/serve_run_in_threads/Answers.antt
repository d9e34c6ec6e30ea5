use Rattle.std.specs.Prelude.{Some}
use Rattle.std.proofs.lemmas.Result.{err_from_is_err_and}
use Rattle.dp_program.specs.Texts.{paths_of, sources_of, texts_of}
use Rattle.dp_program.proofs.ServesLemmas.{run_read, run_refused}
use Rattle.dp_program.proofs.runs.serve_run_in_threads.Goals as goal

pub returns-in_err-texts-clause-serves : goal.returns-in_err-texts-clause-serves
returns-in_err-texts-clause-serves g c =
    let p = err_from_is_err_and c.from_residual.result c.from_residual.ensures.1 in
    rw (p.1, p.2) (run_refused (paths_of c.args.run.files.now) (sources_of (g.F.ReadFiles.source_at c.args.files.now) (paths_of c.args.run.files.now)) (Some c.args.run.threads) (g.W.WriteTold.contents c.args.output.now) _ c.in_err-texts.ensures.read)

-- the run is of the texts that were read
pub returns-clause-serves : goal.returns-clause-serves
returns-clause-serves g c =
    run_read (paths_of c.args.run.files.now) (sources_of (g.F.ReadFiles.source_at c.args.files.now) (paths_of c.args.run.files.now)) (Some c.args.run.threads) (g.W.WriteTold.contents c.args.output.now)
    (g.W.WriteTold.contents c.run_in_threads-answered.new.output) (texts_of c.in_ok-texts.texts) c.run_in_threads-answered.result c.placed_in_run.result c.in_ok-texts.ensures.read c.placed_in_run.ensures.same
    c.run_in_threads-answered.ensures.shares c.placed_in_run.ensures.stands
