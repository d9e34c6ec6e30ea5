use Rattle.std.specs.Prelude.{[]}
use Rattle.dp_wide_runs.specs.Runs.{run_of_texts}
use Rattle.dp_wide_runs.specs.Verbose.{above_refusal, above_turn, in_force_after}
use Rattle.dp_wide_runs.proofs.BesideLemmas.{same_status}
use Rattle.dp_wide_runs.proofs.verbose.run_in_force.Goals as goal

-- a turn is refused, and a step is not taken, exactly if it is so in the run without verbose output
pub returns-clause-status : goal.returns-clause-status
returns-clause-status g c =
    same_status in_force_after (above_turn g.E.Explanations.explanation_of) (above_refusal g.E.Explanations.explanation_of) (λ in_force. []) c.args.taker (run_of_texts c.args.texts)
    (g.W.WriteTold.contents c.args.writer.now) (g.W.WriteTold.contents c.run_texts.new.writer) c.run_texts.result c.run_texts.ensures.writes
