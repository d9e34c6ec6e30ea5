use Rattle.std.proofs.lemmas.Result.{err_from_is_err_and}
use Rattle.dp_diff.specs.Differences.{addition_at}
use Rattle.dp_diff.specs.steps.Telling.{writer_of}
use Rattle.dp_diff.proofs.TellingLemmas.{failed_at, told_more, told_none}
use Rattle.dp_diff.proofs.telling.tell_all_added.Goals as goal

pub loop-place-init : goal.loop-place-init
loop-place-init g c =
    told_none (writer_of (g.W.WriteTold.contents c.args.writer.now) (g.W.WriteTold.has_failed c.args.writer.now)) c.args.sheet.now

-- telling failed at one of the entries
pub returns-in_err-tell_added : goal.returns-in_err-tell_added
returns-in_err-tell_added g c =
    let contents = g.W.WriteTold.contents in
    let failed = g.W.WriteTold.has_failed in
    let p = err_from_is_err_and c.from_residual.result c.from_residual.ensures.1 in
    rw (p.1, p.2) (failed_at (addition_at c.args.context.now c.args.before.now.keys) c.args.after.now c.loop-place.place-index c.place-item.result
    c.loop-place-test.true c.place-item.is
    (writer_of (contents c.args.writer.now) (failed c.args.writer.now)) (writer_of (contents c.loop-place.writer) (failed c.loop-place.writer))
    (writer_of (contents c.tell_added.new.writer) (failed c.tell_added.new.writer)) c.args.sheet.now c.loop-place.sheet
    c.in_err-tell_added.field-0.0 c.loop-place.invariant c.in_err-tell_added.ensures)

-- the differences at one more entry are told
pub loop-place-preserved : goal.loop-place-preserved
loop-place-preserved g c =
    let contents = g.W.WriteTold.contents in
    let failed = g.W.WriteTold.has_failed in
    told_more (addition_at c.args.context.now c.args.before.now.keys) c.args.after.now c.loop-place.place-index c.place-item.result
    c.loop-place-test.true c.place-item.is
    (writer_of (contents c.args.writer.now) (failed c.args.writer.now)) (writer_of (contents c.loop-place.writer) (failed c.loop-place.writer))
    (writer_of (contents c.tell_added.new.writer) (failed c.tell_added.new.writer)) c.args.sheet.now c.loop-place.sheet c.tell_added.new.sheet
    c.loop-place.invariant c.in_ok-tell_added.ensures
