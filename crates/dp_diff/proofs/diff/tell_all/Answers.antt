use Rattle.std.proofs.Common.{◌∙◌, List, subst, sym}
use Rattle.std.proofs.lemmas.Result.{err_from_is_err_and}
use Rattle.dp_diff.specs.Differences.{Difference}
use Rattle.dp_diff.specs.steps.Telling.{HasFailed, HasTold, Tells, writer_of}
use Rattle.dp_diff.proofs.ContextsLemmas.{contexts_apart, in_contexts, in_contexts_of, in_new_contexts, in_new_contexts_of}
use Rattle.dp_diff.proofs.TellingLemmas.{failed_before, tells_after}
use Rattle.dp_diff.proofs.diff.tell_all.Goals as goal

-- telling failed in a context of the dialplan before the change
pub returns-in_err-tell_contexts : goal.returns-in_err-tell_contexts
returns-in_err-tell_contexts g c =
    let contents = g.W.WriteTold.contents in
    let failed = g.W.WriteTold.has_failed in
    let w = writer_of (contents c.args.writer.now) (failed c.args.writer.now) in
    let v = writer_of (contents c.tell_contexts.new.writer) (failed c.tell_contexts.new.writer) in
    let before = c.args.before.now in
    let after = c.args.after.now in
    let p = err_from_is_err_and c.from_residual-in_err-tell_contexts.result c.from_residual-in_err-tell_contexts.ensures.1 in
    let fault = c.in_err-tell_contexts.field-0.0 in
    let P : List Difference → Type 0 = λ ds. HasFailed w c.args.sheet.now v ds fault in
    rw (p.1, p.2) (subst P (sym (contexts_apart before after)) (failed_before w v c.args.sheet.now
    (in_contexts (before, after) before.contexts) (in_new_contexts (before, after) before after.contexts) fault
    (subst P (in_contexts_of c.in_ok-change.change (before, after) c.contexts.result.now before.contexts c.in_ok-change.ensures c.contexts.ensures)
    c.in_err-tell_contexts.ensures.tells)))

-- the differences in the contexts of the dialplan before the change are told, and then those in the others
pub returns : goal.returns
returns g c =
    let contents = g.W.WriteTold.contents in
    let failed = g.W.WriteTold.has_failed in
    let w = writer_of (contents c.args.writer.now) (failed c.args.writer.now) in
    let v = writer_of (contents c.tell_contexts.new.writer) (failed c.tell_contexts.new.writer) in
    let u = writer_of (contents c.tell_new_contexts.new.writer) (failed c.tell_new_contexts.new.writer) in
    let before = c.args.before.now in
    let after = c.args.after.now in
    let result = c.tell_new_contexts.result in
    let P : List Difference → Type 0 = λ ds. HasTold w c.args.sheet.now v c.tell_contexts.new.sheet ds in
    let Q : List Difference → Type 0 = λ ds. Tells v c.tell_contexts.new.sheet u c.tell_new_contexts.new.sheet ds result in
    let R : List Difference → Type 0 = λ ds. Tells w c.args.sheet.now u c.tell_new_contexts.new.sheet ds result in
    subst R (sym (contexts_apart before after)) (tells_after w v u c.args.sheet.now c.tell_contexts.new.sheet c.tell_new_contexts.new.sheet
    (in_contexts (before, after) before.contexts) (in_new_contexts (before, after) before after.contexts) result
    (subst P (in_contexts_of c.in_ok-change.change (before, after) c.contexts.result.now before.contexts c.in_ok-change.ensures c.contexts.ensures)
    c.in_ok-tell_contexts.ensures.tells)
    (subst Q (in_new_contexts_of c.tell_contexts.new.change (before, after) before c.contexts-2.result.now after.contexts
    (c.in_ok-tell_contexts.ensures.same ∙ c.in_ok-change.ensures) c.contexts-2.ensures) c.tell_new_contexts.ensures.tells))
