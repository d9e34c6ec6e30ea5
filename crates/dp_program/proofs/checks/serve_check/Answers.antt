use Rattle.std.proofs.lemmas.Result.{err_from_is_err_and}
use Rattle.dp_program.specs.Checks.{check_by}
use Rattle.dp_program.proofs.ServesLemmas.{report_read, report_refused}
use Rattle.dp_program.proofs.checks.serve_check.Goals as goal

pub returns-in_err-plan-clause-serves : goal.returns-in_err-plan-clause-serves
returns-in_err-plan-clause-serves g c =
    let p = err_from_is_err_and c.from_residual.result c.from_residual.ensures.1 in
    rw (p.1, p.2) (report_refused c.args.file.now (g.F.ReadFiles.source_at c.args.files.now c.args.file.now) (check_by c.args.options.is_json c.args.options.explains c.args.file.now) (g.W.WriteTold.contents c.args.output.now) _
    c.in_err-plan.ensures.path c.in_err-plan.ensures.read)

-- the report is on the text that was read
pub returns-clause-serves : goal.returns-clause-serves
returns-clause-serves g c =
    report_read c.args.file.now (g.F.ReadFiles.source_at c.args.files.now c.args.file.now) (check_by c.args.options.is_json c.args.options.explains c.args.file.now) (g.W.WriteTold.contents c.args.output.now) (g.W.WriteTold.contents c.check_by.new.output) c.in_ok-plan.plan.items
    c.deref-2.result.now c.deref.result.now c.deref-2.ensures.value c.deref.ensures.value
    c.check_by.result c.with_place.result c.in_ok-plan.ensures.read c.with_place.ensures.same c.check_by.ensures.reports c.with_place.ensures.stands
