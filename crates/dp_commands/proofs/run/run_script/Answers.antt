use Rattle.dp_commands.specs.Run.{run_of_texts}
use Rattle.dp_commands.proofs.TextsLemmas.{Writes_run}
use Rattle.dp_commands.proofs.run.run_script.Goals as goal

-- the turns are taken without further lines
pub returns-clause-writes : goal.returns-clause-writes
returns-clause-writes g c =
    Writes_run _ (run_of_texts c.args.texts) (g.W.WriteTold.contents c.args.writer.now) (g.W.WriteTold.contents c.run_texts.new.writer) c.run_texts.result c.run_texts.ensures.writes
