use Rattle.std.proofs.lemmas.Result.{err_from_is_err_and}
use Rattle.dp_program.specs.Diffs.{WritesDiff}
use Rattle.dp_program.proofs.DiffLemmas.{both_read, diff_refused_after, diff_refused_before}
use Rattle.dp_program.proofs.diffs.serve_diff.Goals as goal

-- the first dialplan was not loaded
pub returns-in_err-before-clause-serves : goal.returns-in_err-before-clause-serves
returns-in_err-before-clause-serves g c =
    let p = err_from_is_err_and c.from_residual.result c.from_residual.ensures.1 in
    rw (p.1, p.2) (diff_refused_before (g.F.ReadFiles.source_at c.args.files.now) c.args.paths.now.before.now c.args.paths.now.after.now (g.W.WriteTold.contents c.args.output.now) _ c.in_err-before.ensures.loads)

-- the second was not loaded
pub returns-in_err-after-clause-serves : goal.returns-in_err-after-clause-serves
returns-in_err-after-clause-serves g c =
    let p = err_from_is_err_and c.from_residual-in_err-after.result c.from_residual-in_err-after.ensures.1 in
    rw (p.1, p.2) (diff_refused_after (g.F.ReadFiles.source_at c.args.files.now) c.args.paths.now.before.now c.args.paths.now.after.now (g.W.WriteTold.contents c.args.output.now) _ _ c.in_ok-before.ensures.loads c.in_err-after.ensures.loads)

-- both were loaded
pub returns-clause-serves : goal.returns-clause-serves
returns-clause-serves g c =
    both_read (WritesDiff (g.W.WriteTold.contents c.args.output.now) (g.W.WriteTold.contents c.write_diff.new.output)) (g.F.ReadFiles.source_at c.args.files.now) c.args.paths.now.before.now c.args.paths.now.after.now _ _ c.write_diff.result c.placed_nowhere.result
    c.in_ok-before.ensures.loads c.in_ok-after.ensures.loads c.placed_nowhere.ensures.same c.write_diff.ensures.writes c.placed_nowhere.ensures.stands
