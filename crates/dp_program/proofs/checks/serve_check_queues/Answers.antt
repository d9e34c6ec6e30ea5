use Rattle.std.proofs.lemmas.Result.{err_from_is_err_and}
use Rattle.dp_program.specs.Checks.{queues_report}
use Rattle.dp_program.proofs.ServesLemmas.{report_read, report_refused}
use Rattle.dp_program.proofs.checks.serve_check_queues.Goals as goal

pub returns-in_err-queues-clause-serves : goal.returns-in_err-queues-clause-serves
returns-in_err-queues-clause-serves g c =
    let p = err_from_is_err_and c.from_residual.result c.from_residual.ensures.1 in
    rw (p.1, p.2) (report_refused c.args.file.now (g.F.ReadFiles.source_at c.args.files.now c.args.file.now) (queues_report c.args.is_json) (g.W.WriteTold.contents c.args.output.now) _
    c.in_err-queues.ensures.path c.in_err-queues.ensures.read)

-- the report is on the text that was read
pub returns-clause-serves : goal.returns-clause-serves
returns-clause-serves g c =
    report_read c.args.file.now (g.F.ReadFiles.source_at c.args.files.now c.args.file.now) (queues_report c.args.is_json) (g.W.WriteTold.contents c.args.output.now) (g.W.WriteTold.contents c.check_queues.new.output) c.in_ok-queues.queues.items
    c.deref-2.result.now c.deref.result.now c.deref-2.ensures.value c.deref.ensures.value
    c.check_queues.result c.with_place.result c.in_ok-queues.ensures.read c.with_place.ensures.same c.check_queues.ensures.reports c.with_place.ensures.stands
