use Rattle.std.proofs.Common.{◌∙◌, List, refl, subst}
use Rattle.std.proofs.lemmas.Result.{err_from_is_err_and}
use Rattle.dp_plan.specs.Contexts.{PlanContext}
use Rattle.dp_diff.specs.Differences.{Difference, differences_in}
use Rattle.dp_diff.specs.steps.Telling.{HasFailed, HasTold, new_in, writer_of}
use Rattle.dp_diff.proofs.ContextsLemmas.{new_differences_at}
use Rattle.dp_diff.proofs.TellingLemmas.{failed_at, told_more, told_none}
use Rattle.dp_diff.proofs.diff.tell_new_contexts.Goals as goal

pub loop-context-init : goal.loop-context-init
loop-context-init g c = record {
  told = told_none (writer_of (g.W.WriteTold.contents c.args.writer.now) (g.W.WriteTold.has_failed c.args.writer.now)) c.args.sheet.now;
  same = refl;
}

-- telling failed in one of the contexts
pub returns-in_err-tell_new_context-clause-tells : goal.returns-in_err-tell_new_context-clause-tells
returns-in_err-tell_new_context-clause-tells g c =
    let contents = g.W.WriteTold.contents in
    let failed = g.W.WriteTold.has_failed in
    let w = writer_of (contents c.args.writer.now) (failed c.args.writer.now) in
    let v = writer_of (contents c.loop-context.writer) (failed c.loop-context.writer) in
    let u = writer_of (contents c.tell_new_context.new.writer) (failed c.tell_new_context.new.writer) in
    let p = err_from_is_err_and c.from_residual.result c.from_residual.ensures.1 in
    let fault = c.in_err-tell_new_context.field-0.0 in
    let P : List Difference → Type 0 = λ ds. HasFailed v c.loop-context.sheet u ds fault in
    rw (p.1, p.2) (failed_at (λ (context : PlanContext). new_in (differences_in c.args.change.now.0 c.args.change.now.1) c.args.before.now context.name) c.args.contexts.now c.loop-context.context-index c.context-item.result
    c.loop-context-test.true c.context-item.is w v u c.args.sheet.now c.loop-context.sheet fault c.loop-context.invariant.told
    (subst P (new_differences_at c.loop-context.change c.args.change.now c.args.before.now c.context-item.result.name c.context-item.result.name c.loop-context.invariant.same refl) c.in_err-tell_new_context.ensures.tells))

-- the differences in one more context are told
pub loop-context-preserved : goal.loop-context-preserved
loop-context-preserved g c =
    let contents = g.W.WriteTold.contents in
    let failed = g.W.WriteTold.has_failed in
    let w = writer_of (contents c.args.writer.now) (failed c.args.writer.now) in
    let v = writer_of (contents c.loop-context.writer) (failed c.loop-context.writer) in
    let u = writer_of (contents c.tell_new_context.new.writer) (failed c.tell_new_context.new.writer) in
    let P : List Difference → Type 0 = λ ds. HasTold v c.loop-context.sheet u c.tell_new_context.new.sheet ds in
    record {
      told = told_more (λ (context : PlanContext). new_in (differences_in c.args.change.now.0 c.args.change.now.1) c.args.before.now context.name) c.args.contexts.now c.loop-context.context-index c.context-item.result
          c.loop-context-test.true c.context-item.is w v u c.args.sheet.now c.loop-context.sheet c.tell_new_context.new.sheet c.loop-context.invariant.told
          (subst P (new_differences_at c.loop-context.change c.args.change.now c.args.before.now c.context-item.result.name c.context-item.result.name c.loop-context.invariant.same refl) c.in_ok-tell_new_context.ensures.tells);
      same = c.in_ok-tell_new_context.ensures.same ∙ c.loop-context.invariant.same;
    }
