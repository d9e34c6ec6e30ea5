use Rattle.dp_diff.specs.steps.Telling.{writer_of}
use Rattle.dp_diff.proofs.TellingLemmas.{told_none}
use Rattle.dp_diff.proofs.sheet.Sheet.send_full.Goals as goal

pub returns : goal.returns
returns g c = told_none (writer_of (g.W.WriteTold.contents c.args.writer.now) (g.W.WriteTold.has_failed c.args.writer.now)) c.args.self.now
