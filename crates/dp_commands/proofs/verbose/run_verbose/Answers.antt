use Rattle.std.specs.Option.{option_map}
use Rattle.dp_commands.specs.Run.{run_of_texts}
use Rattle.dp_commands.specs.Verbose.{first_in_force}
use Rattle.dp_commands.proofs.VerboseLemmas.{run_refused, verbose_refused}
use Rattle.dp_commands.proofs.verbose.run_verbose.Goals as goal

-- the run is refused because of its dialplan
pub returns-in-Err-clause-writes : goal.returns-in-Err-clause-writes
returns-in-Err-clause-writes g c =
    verbose_refused g.E.Explanations.explanation_of
    (first_in_force c.args.names.plan.now (option_map (λ name. name.now) c.args.names.second_plan) c.args.texts.plan.now)
    (g.W.WriteTold.contents c.args.writer.now) (run_of_texts c.args.texts) c.in-Err.fault
    (run_refused c.args.texts.plan.now (option_map (λ text. text.now) c.args.texts.queues) (option_map (λ text. text.now) c.args.texts.second_plan) c.args.texts.script.now
    c.in-Err.fault c.in-Err.ensures.fault)
