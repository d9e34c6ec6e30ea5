use Rattle.std.proofs.Common.{Result}
use Rattle.std.specs.Option.{option_map}
use Rattle.std.proofs.lemmas.Result.{err_from_is_err_and}
use Rattle.dp_app.specs.Rows.{with_functions}
use Rattle.dp_commands.specs.Run.{LoadedFilesOf}
use Rattle.dp_commands.specs.declared.fault.PbxFault.{PbxFault}
use Rattle.dp_program.specs.Reaches.{Reaches}
use Rattle.dp_program.specs.Requests.{options_of, question_of}
use Rattle.dp_program.proofs.OnFilesLemmas.{files_read, files_refused_plan, files_refused_queues}
use Rattle.dp_program.proofs.ReachesLemmas.{reaches_fault}
use Rattle.dp_program.proofs.reaches.serve_reach_over.Goals as goal

pub returns-in_err-plan-clause-serves : goal.returns-in_err-plan-clause-serves
returns-in_err-plan-clause-serves g c =
    let p = err_from_is_err_and c.from_residual.result c.from_residual.ensures.1 in
    let question = question_of c.args.question.now in
    let old = g.W.WriteTold.contents c.args.output.now in
    rw (p.1, p.2) (files_refused_plan (λ (given : Result LoadedFilesOf PbxFault). Reaches (with_functions g.T.AppTable.rows g.T.Functions.Functions.table) question (options_of c.args.options) given old old) (reaches_fault (with_functions g.T.AppTable.rows g.T.Functions.Functions.table) question (options_of c.args.options) old)
    (g.F.ReadFiles.source_at c.args.files.now) question.file question.queues _ c.in_err-plan.ensures.path c.in_err-plan.ensures.read)

pub returns-in_err-queues-clause-serves : goal.returns-in_err-queues-clause-serves
returns-in_err-queues-clause-serves g c =
    let p = err_from_is_err_and c.from_residual-in_err-queues.result c.from_residual-in_err-queues.ensures.1 in
    let question = question_of c.args.question.now in
    let old = g.W.WriteTold.contents c.args.output.now in
    rw (p.1, p.2) (files_refused_queues (λ (given : Result LoadedFilesOf PbxFault). Reaches (with_functions g.T.AppTable.rows g.T.Functions.Functions.table) question (options_of c.args.options) given old old) (reaches_fault (with_functions g.T.AppTable.rows g.T.Functions.Functions.table) question (options_of c.args.options) old)
    (g.F.ReadFiles.source_at c.args.files.now) question.file _ question.queues _ c.in_err-queues.ensures.path c.in_ok-plan.ensures.read c.in_err-queues.ensures.read)

-- the report is on the texts that were read
pub returns-clause-serves : goal.returns-clause-serves
returns-clause-serves g c =
    let question = question_of c.args.question.now in
    let old = g.W.WriteTold.contents c.args.output.now in
    let new = g.W.WriteTold.contents c.reach_told-answered.new.output in
    files_read (λ (given : Result LoadedFilesOf PbxFault). Reaches (with_functions g.T.AppTable.rows g.T.Functions.Functions.table) question (options_of c.args.options) given old new) (g.F.ReadFiles.source_at c.args.files.now) question.file
    c.in_ok-plan.plan.items question.queues (option_map (λ text. text.items) c.in_ok-queues.queues) c.reach_told-answered.result c.placed_over.result
    c.in_ok-plan.ensures.read c.in_ok-queues.ensures.read c.placed_over.ensures.same c.reach_told-answered.ensures.reaches c.placed_over.ensures.stands
