use Rattle.std.proofs.lemmas.Result.{err_from_is_err_and}
use Rattle.dp_program.proofs.ServesLemmas.{audit_read, audit_refused}
use Rattle.dp_program.proofs.reports.serve_audit.Goals as goal

pub returns-in_err-plan-clause-serves : goal.returns-in_err-plan-clause-serves
returns-in_err-plan-clause-serves g c =
    let p = err_from_is_err_and c.from_residual.result c.from_residual.ensures.1 in
    rw (p.1, p.2) (audit_refused c.args.is_json c.args.file.now (g.F.ReadFiles.source_at c.args.files.now c.args.file.now) (g.W.WriteTold.contents c.args.output.now) _ c.in_err-plan.ensures.path c.in_err-plan.ensures.read)

-- the audit is of the text that was read
pub returns-clause-serves : goal.returns-clause-serves
returns-clause-serves g c =
    audit_read c.args.is_json c.args.file.now (g.F.ReadFiles.source_at c.args.files.now c.args.file.now) (g.W.WriteTold.contents c.args.output.now) (g.W.WriteTold.contents c.audit_told.new.output) c.in_ok-plan.plan.items
    c.deref-2.result.now c.deref.result.now c.deref-2.ensures.value c.deref.ensures.value
    c.audit_told.result c.with_place.result c.in_ok-plan.ensures.read c.with_place.ensures.same c.audit_told.ensures.audits c.with_place.ensures.stands c.audit_told.ensures.tells
