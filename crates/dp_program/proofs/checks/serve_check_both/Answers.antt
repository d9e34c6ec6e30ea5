use Rattle.std.proofs.lemmas.Result.{err_from_is_err_and}
use Rattle.dp_program.proofs.ServesLemmas.{both_read, both_refused_plan, both_refused_queues}
use Rattle.dp_program.proofs.checks.serve_check_both.Goals as goal

pub returns-in_err-plan-clause-serves : goal.returns-in_err-plan-clause-serves
returns-in_err-plan-clause-serves g c =
    let p = err_from_is_err_and c.from_residual.result c.from_residual.ensures.1 in
    rw (p.1, p.2) (both_refused_plan (g.F.ReadFiles.source_at c.args.files.now) c.args.paths.now.plan.now c.args.paths.now.queues.now c.args.options.is_json c.args.options.explains (g.W.WriteTold.contents c.args.output.now) _
    c.in_err-plan.ensures.path c.in_err-plan.ensures.read)

pub returns-in_err-queues-clause-serves : goal.returns-in_err-queues-clause-serves
returns-in_err-queues-clause-serves g c =
    let p = err_from_is_err_and c.from_residual-in_err-queues.result c.from_residual-in_err-queues.ensures.1 in
    rw (p.1, p.2) (both_refused_queues (g.F.ReadFiles.source_at c.args.files.now) c.args.paths.now.plan.now c.args.paths.now.queues.now c.args.options.is_json c.args.options.explains (g.W.WriteTold.contents c.args.output.now) _ _
    c.in_err-queues.ensures.path c.in_ok-plan.ensures.read c.in_err-queues.ensures.read)

-- the report is on the texts that were read
pub returns-clause-serves : goal.returns-clause-serves
returns-clause-serves g c =
    both_read (g.F.ReadFiles.source_at c.args.files.now) c.args.paths.now.plan.now c.args.paths.now.queues.now c.args.options.is_json c.args.options.explains (g.W.WriteTold.contents c.args.output.now)
    (g.W.WriteTold.contents c.check_both-answered.new.output) _ _ c.check_both-answered.result c.placed_in_two.result
    c.in_ok-plan.ensures.read c.in_ok-queues.ensures.read c.placed_in_two.ensures.same c.check_both-answered.ensures.reports c.placed_in_two.ensures.stands
