use Rattle.std.proofs.lemmas.Result.{err_from_is_err_and}
use Rattle.dp_program.proofs.DiffLemmas.{load_read, load_unread}
use Rattle.dp_program.proofs.diffs.load_file.Goals as goal

-- the file was not read
pub returns-in_err-text-clause-loads : goal.returns-in_err-text-clause-loads
returns-in_err-text-clause-loads g c =
    let p = err_from_is_err_and c.from_residual.result c.from_residual.ensures.1 in
    rw (p.1, p.2) (load_unread c.args.path.now (g.F.ReadFiles.source_at c.args.files.now c.args.path.now) _ c.in_err-text.ensures.path c.in_err-text.ensures.read)

-- the dialplan is that of the text that was read
pub returns-clause-loads : goal.returns-clause-loads
returns-clause-loads g c =
    load_read c.args.path.now (g.F.ReadFiles.source_at c.args.files.now c.args.path.now) c.in_ok-text.text.items c.deref-2.result.now c.deref.result.now c.deref-2.ensures.value c.deref.ensures.value
    c.load_plan.result c.with_place.result c.in_ok-text.ensures.read c.with_place.ensures.same c.with_place.ensures.stands c.load_plan.ensures.plan
