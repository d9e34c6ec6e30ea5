use Rattle.dp_wide_runs.specs.Runs.{run_of_texts}
use Rattle.dp_wide_runs.proofs.BesideLemmas.{writes_plainly}
use Rattle.dp_wide_runs.proofs.RunsLemmas.{plain_ending}
use Rattle.dp_wide_runs.proofs.run.run_wide.Goals as goal

-- nothing is written above the lines
pub returns-clause-writes : goal.returns-clause-writes
returns-clause-writes g c =
    writes_plainly _ (run_of_texts c.args.texts) (g.W.WriteTold.contents c.args.writer.now) (g.W.WriteTold.contents c.run_texts.new.writer) c.run_texts.result
    c.run_texts.ensures.writes

-- so a run that ended with status 0 is plain
pub returns-clause-plain : goal.returns-clause-plain
returns-clause-plain g c =
    plain_ending (run_of_texts c.args.texts) (g.W.WriteTold.contents c.args.writer.now) (g.W.WriteTold.contents c.run_texts.new.writer) c.run_texts.result
    (writes_plainly _ (run_of_texts c.args.texts) (g.W.WriteTold.contents c.args.writer.now) (g.W.WriteTold.contents c.run_texts.new.writer) c.run_texts.result
    c.run_texts.ensures.writes)
