use Rattle.std.proofs.Common.{Result}
use Rattle.std.specs.Option.{option_map}
use Rattle.std.proofs.lemmas.Result.{err_from_is_err_and}
use Rattle.dp_app.specs.Rows.{with_functions}
use Rattle.dp_commands.specs.Run.{LoadedFilesOf}
use Rattle.dp_commands.specs.declared.fault.PbxFault.{PbxFault}
use Rattle.dp_program.specs.Graphs.{Draws}
use Rattle.dp_program.specs.Requests.{drawing_of}
use Rattle.dp_program.proofs.GraphLemmas.{graph_fault}
use Rattle.dp_program.proofs.OnFilesLemmas.{files_read, files_refused_plan, files_refused_queues}
use Rattle.dp_program.proofs.graphs.serve_graph_over.Goals as goal

pub returns-in_err-plan-clause-serves : goal.returns-in_err-plan-clause-serves
returns-in_err-plan-clause-serves g c =
    let p = err_from_is_err_and c.from_residual.result c.from_residual.ensures.1 in
    let drawing = drawing_of c.args.question.now in
    let old = g.W.WriteTold.contents c.args.output.now in
    rw (p.1, p.2) (files_refused_plan (λ (given : Result LoadedFilesOf PbxFault). Draws (with_functions g.T.AppTable.rows g.T.Functions.Functions.table) drawing c.args.explains given old old) (graph_fault (with_functions g.T.AppTable.rows g.T.Functions.Functions.table) drawing c.args.explains old)
    (g.F.ReadFiles.source_at c.args.files.now) drawing.file drawing.queues _ c.in_err-plan.ensures.path c.in_err-plan.ensures.read)

pub returns-in_err-queues-clause-serves : goal.returns-in_err-queues-clause-serves
returns-in_err-queues-clause-serves g c =
    let p = err_from_is_err_and c.from_residual-in_err-queues.result c.from_residual-in_err-queues.ensures.1 in
    let drawing = drawing_of c.args.question.now in
    let old = g.W.WriteTold.contents c.args.output.now in
    rw (p.1, p.2) (files_refused_queues (λ (given : Result LoadedFilesOf PbxFault). Draws (with_functions g.T.AppTable.rows g.T.Functions.Functions.table) drawing c.args.explains given old old) (graph_fault (with_functions g.T.AppTable.rows g.T.Functions.Functions.table) drawing c.args.explains old)
    (g.F.ReadFiles.source_at c.args.files.now) drawing.file _ drawing.queues _ c.in_err-queues.ensures.path c.in_ok-plan.ensures.read c.in_err-queues.ensures.read)

-- the picture is that of the texts that were read
pub returns-clause-serves : goal.returns-clause-serves
returns-clause-serves g c =
    let drawing = drawing_of c.args.question.now in
    let old = g.W.WriteTold.contents c.args.output.now in
    let new = g.W.WriteTold.contents c.draw_texts-answered.new.output in
    files_read (λ (given : Result LoadedFilesOf PbxFault). Draws (with_functions g.T.AppTable.rows g.T.Functions.Functions.table) drawing c.args.explains given old new) (g.F.ReadFiles.source_at c.args.files.now) drawing.file
    c.in_ok-plan.plan.items drawing.queues (option_map (λ text. text.items) c.in_ok-queues.queues) c.draw_texts-answered.result c.placed_over.result
    c.in_ok-plan.ensures.read c.in_ok-queues.ensures.read c.placed_over.ensures.same c.draw_texts-answered.ensures.draws c.placed_over.ensures.stands
