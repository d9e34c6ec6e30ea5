use Rattle.std.proofs.Common.{sym, ◌∙◌}
use Rattle.std.specs.Option.{option_copied}
use Rattle.dp_diff.specs.Differences.{change_at}
use Rattle.dp_diff.specs.steps.Telling.{writer_of}
use Rattle.dp_diff.proofs.TellingLemmas.{not_changed, told_nothing}
use Rattle.dp_diff.proofs.telling.tell_changed.Goals as goal

-- what answers at the place after the change does the same
pub returns-then-is_kept : goal.returns-then-is_kept
returns-then-is_kept g c =
    told_nothing (writer_of (g.W.WriteTold.contents c.args.writer.now) (g.W.WriteTold.has_failed c.args.writer.now)) c.args.sheet.now
    (change_at c.args.context.now c.args.after.now.keys c.args.place.now)
    (not_changed c.args.context.now c.args.after.now.keys c.args.place.now c.entry-entry.result.now (option_copied c.find-other.result)
    c.entry-entry.ensures c.find-other.ensures (sym c.is_kept.ensures ∙ c.if-is_kept.true))
