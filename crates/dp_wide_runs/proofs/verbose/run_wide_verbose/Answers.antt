use Rattle.std.specs.Prelude.{[]}
use Rattle.std.specs.Option.{option_map}
use Rattle.dp_commands.specs.LinePlaces.{places_of}
use Rattle.dp_commands.specs.Verbose.{first_in_force_at}
use Rattle.dp_wide_runs.specs.Runs.{run_of_texts}
use Rattle.dp_wide_runs.specs.Verbose.{above_refusal, above_turn, in_force_after}
use Rattle.dp_wide_runs.proofs.BesideLemmas.{plain_by_status, plan_refused}
use Rattle.dp_wide_runs.proofs.verbose.run_wide_verbose.Goals as goal

-- the run is refused because of its dialplan
pub returns-in-Err-clause-writes : goal.returns-in-Err-clause-writes
returns-in-Err-clause-writes g c =
    plan_refused in_force_after (above_turn g.E.Explanations.explanation_of) (above_refusal g.E.Explanations.explanation_of) (λ in_force. [])
    (first_in_force_at (places_of c.args.places.plan) (option_map places_of c.args.places.second_plan) c.args.texts.plan.now) (g.W.WriteTold.contents c.args.writer.now)
    c.args.texts.plan.now (option_map (λ text. text.now) c.args.texts.queues) (option_map (λ text. text.now) c.args.texts.second_plan) c.args.texts.script.now
    c.in-Err.fault c.in-Err.ensures.fault

-- a run that ended with status 0 is plain
pub returns-in-Ok-clause-plain : goal.returns-in-Ok-clause-plain
returns-in-Ok-clause-plain g c = plain_by_status (run_of_texts c.args.texts) c.run_in_force.result c.run_in_force.ensures.status
