use Rattle.std.proofs.Common.{List, subst}
use Rattle.std.specs.List.{flat_map}
use Rattle.std.proofs.lemmas.Result.{err_from_is_err_and}
use Rattle.dp_plan.specs.declared.entry.Entry.{Entry}
use Rattle.dp_diff.specs.Differences.{addition_at, change_at}
use Rattle.dp_diff.specs.steps.Telling.{HasFailed, HasTold, Tells, writer_of}
use Rattle.dp_diff.proofs.TellingLemmas.{failed_before, tells_after}
use Rattle.dp_diff.proofs.telling.tell_between.Goals as goal

-- telling failed at an entry that answered before
pub returns-in_err-tell_all_changed : goal.returns-in_err-tell_all_changed
returns-in_err-tell_all_changed g c =
    let contents = g.W.WriteTold.contents in
    let failed = g.W.WriteTold.has_failed in
    let w = writer_of (contents c.args.writer.now) (failed c.args.writer.now) in
    let v = writer_of (contents c.tell_all_changed.new.writer) (failed c.tell_all_changed.new.writer) in
    let f = change_at c.args.context.now c.args.after.now.keys in
    let p = err_from_is_err_and c.from_residual.result c.from_residual.ensures.1 in
    let fault = c.in_err-tell_all_changed.field-0.0 in
    let P : List Entry → Type 0 = λ entries. HasFailed w c.args.sheet.now v (flat_map f entries) fault in
    rw (p.1, p.2) (failed_before w v c.args.sheet.now (flat_map f c.args.before.now.keys)
    (flat_map (addition_at c.args.context.now c.args.before.now.keys) c.args.after.now.keys) fault
    (subst P c.as_slice.ensures.keys c.in_err-tell_all_changed.ensures))

-- the differences at the entries that are new are told after those at the others
pub returns : goal.returns
returns g c =
    let contents = g.W.WriteTold.contents in
    let failed = g.W.WriteTold.has_failed in
    let w = writer_of (contents c.args.writer.now) (failed c.args.writer.now) in
    let v = writer_of (contents c.tell_all_changed.new.writer) (failed c.tell_all_changed.new.writer) in
    let u = writer_of (contents c.tell_all_added.new.writer) (failed c.tell_all_added.new.writer) in
    let f = change_at c.args.context.now c.args.after.now.keys in
    let h = addition_at c.args.context.now c.args.before.now.keys in
    let P : List Entry → Type 0 = λ entries. HasTold w c.args.sheet.now v c.tell_all_changed.new.sheet (flat_map f entries) in
    let Q : List Entry → Type 0 = λ entries. Tells v c.tell_all_changed.new.sheet u c.tell_all_added.new.sheet (flat_map h entries) c.tell_all_added.result in
    tells_after w v u c.args.sheet.now c.tell_all_changed.new.sheet c.tell_all_added.new.sheet
    (flat_map f c.args.before.now.keys) (flat_map h c.args.after.now.keys) c.tell_all_added.result
    (subst P c.as_slice.ensures.keys c.in_ok-tell_all_changed.ensures) (subst Q c.as_slice-2.ensures.keys c.tell_all_added.ensures)
