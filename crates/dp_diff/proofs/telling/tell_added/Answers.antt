use Rattle.std.proofs.Common.{sym}
use Rattle.dp_diff.specs.Differences.{addition_at}
use Rattle.dp_diff.specs.steps.Telling.{writer_of}
use Rattle.dp_diff.proofs.TellingLemmas.{not_added, told_nothing}
use Rattle.dp_diff.proofs.telling.tell_added.Goals as goal

-- an entry answered at the place before
pub returns-then-contains : goal.returns-then-contains
returns-then-contains g c =
    told_nothing (writer_of (g.W.WriteTold.contents c.args.writer.now) (g.W.WriteTold.has_failed c.args.writer.now)) c.args.sheet.now
    (addition_at c.args.context.now c.args.before.now.keys c.args.place.now)
    (not_added c.args.context.now c.args.before.now.keys c.args.place.now (sym c.if-contains.ensures))
