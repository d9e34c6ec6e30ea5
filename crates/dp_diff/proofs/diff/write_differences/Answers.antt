use Rattle.std.proofs.Common.{◌∙◌}
use Rattle.std.proofs.lemmas.Result.{err_from_is_err_and}
use Rattle.dp_diff.specs.Differences.{differences}
use Rattle.dp_diff.specs.steps.Telling.{writer_of}
use Rattle.dp_diff.proofs.WritingLemmas.{counted_whole, written_short, written_whole}
use Rattle.dp_diff.proofs.diff.write_differences.Goals as goal

-- the last write fails
pub returns-in_err-send-clause-err : goal.returns-in_err-send-clause-err
returns-in_err-send-clause-err g c =
    let contents = g.W.WriteTold.contents in
    let failed = g.W.WriteTold.has_failed in
    let p = err_from_is_err_and c.from_residual-in_err-send.result c.from_residual-in_err-send.ensures.1 in
    rw p.1 (written_short (writer_of (contents c.args.writer.now) (failed c.args.writer.now))
    (writer_of (contents c.tell_all.new.writer) (failed c.tell_all.new.writer)) (writer_of (contents c.send.new.writer) (failed c.send.new.writer))
    c.in_ok-sheet.sheet c.tell_all.new.sheet (differences c.args.before.now c.args.after.now) c.in_ok-sheet.ensures c.in_ok-tell_all.ensures
    c.in_err-send.field-0.0 c.in_err-send.ensures.tells)

-- all is written
pub returns-clause-ok : goal.returns-clause-ok
returns-clause-ok g c =
    let contents = g.W.WriteTold.contents in
    let failed = g.W.WriteTold.has_failed in
    written_whole (writer_of (contents c.args.writer.now) (failed c.args.writer.now))
    (writer_of (contents c.tell_all.new.writer) (failed c.tell_all.new.writer)) (writer_of (contents c.send.new.writer) (failed c.send.new.writer))
    c.in_ok-sheet.sheet c.tell_all.new.sheet (differences c.args.before.now c.args.after.now) c.in_ok-sheet.ensures c.in_ok-tell_all.ensures
    c.send.new.self c.in_ok-send.ensures.tells c.in_ok-send.ensures.empty

pub returns-clause-count : goal.returns-clause-count
returns-clause-count g c =
    let contents = g.W.WriteTold.contents in
    let failed = g.W.WriteTold.has_failed in
    c.count.ensures ∙ counted_whole (writer_of (contents c.args.writer.now) (failed c.args.writer.now))
    (writer_of (contents c.tell_all.new.writer) (failed c.tell_all.new.writer)) (writer_of (contents c.send.new.writer) (failed c.send.new.writer))
    c.in_ok-sheet.sheet c.tell_all.new.sheet (differences c.args.before.now c.args.after.now) c.in_ok-sheet.ensures c.in_ok-tell_all.ensures
    c.send.new.self c.in_ok-send.ensures.tells
