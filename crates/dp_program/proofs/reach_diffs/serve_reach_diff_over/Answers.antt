use Rattle.std.proofs.Common.{Result, refl}
use Rattle.std.proofs.KnownBytes.{Appends-nil}
use Rattle.std.proofs.lemmas.Result.{err_from_is_err_and}
use Rattle.dp_app.specs.Rows.{with_functions}
use Rattle.dp_commands.specs.declared.fault.PbxFault.{PbxFault}
use Rattle.dp_plan.specs.Plan.{PlanOf}
use Rattle.dp_program.specs.ReachDiffs.{ReachChanges}
use Rattle.dp_program.specs.Requests.{reach_diff_of}
use Rattle.dp_program.proofs.DiffLemmas.{both_read, both_refused_after, both_refused_before}
use Rattle.dp_program.proofs.ServesLemmas.{reach_changes_lack}
use Rattle.dp_program.proofs.reach_diffs.serve_reach_diff_over.Goals as goal

-- the first dialplan was not loaded
pub returns-in_err-before-clause-serves : goal.returns-in_err-before-clause-serves
returns-in_err-before-clause-serves g c =
    let p = err_from_is_err_and c.from_residual.result c.from_residual.ensures.1 in
    let meanings = with_functions g.T.AppTable.rows g.T.Functions.Functions.table in
    let question = reach_diff_of c.args.question.now in
    let old = g.W.WriteTold.contents c.args.output.now in
    rw (p.1, p.2) (both_refused_before (λ (given : Result (PlanOf × PlanOf) PbxFault). ReachChanges meanings question c.args.explains given old old) (reach_changes_lack meanings question c.args.explains old)
    (λ code line. (Appends-nil old, refl)) (g.F.ReadFiles.source_at c.args.files.now) question.before question.after _ c.in_err-before.ensures.loads)

-- the second was not loaded
pub returns-in_err-after-clause-serves : goal.returns-in_err-after-clause-serves
returns-in_err-after-clause-serves g c =
    let p = err_from_is_err_and c.from_residual-in_err-after.result c.from_residual-in_err-after.ensures.1 in
    let meanings = with_functions g.T.AppTable.rows g.T.Functions.Functions.table in
    let question = reach_diff_of c.args.question.now in
    let old = g.W.WriteTold.contents c.args.output.now in
    rw (p.1, p.2) (both_refused_after (λ (given : Result (PlanOf × PlanOf) PbxFault). ReachChanges meanings question c.args.explains given old old) (reach_changes_lack meanings question c.args.explains old)
    (λ code line. (Appends-nil old, refl)) (g.F.ReadFiles.source_at c.args.files.now) question.before question.after _ _ c.in_ok-before.ensures.loads c.in_err-after.ensures.loads)

-- both were loaded
pub returns-clause-serves : goal.returns-clause-serves
returns-clause-serves g c =
    let meanings = with_functions g.T.AppTable.rows g.T.Functions.Functions.table in
    let question = reach_diff_of c.args.question.now in
    let old = g.W.WriteTold.contents c.args.output.now in
    let new = g.W.WriteTold.contents c.answer_plans.new.output in
    both_read (λ (given : Result (PlanOf × PlanOf) PbxFault). ReachChanges meanings question c.args.explains given old new) (g.F.ReadFiles.source_at c.args.files.now) question.before question.after _ _ c.answer_plans.result c.placed_nowhere.result
    c.in_ok-before.ensures.loads c.in_ok-after.ensures.loads c.placed_nowhere.ensures.same c.answer_plans.ensures.writes c.placed_nowhere.ensures.stands
