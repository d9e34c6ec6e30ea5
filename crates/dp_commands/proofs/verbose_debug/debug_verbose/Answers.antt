use Rattle.std.proofs.Common.{Result, Ok, Err, subst, sym}
use Rattle.std.specs.Option.{option_map}
use Rattle.dp_conf.specs.Answers.{◌>>=◌}
use Rattle.dp_debug.specs.declared.breaks.Break.{Break}
use Rattle.dp_commands.specs.Debug.{debug_of, debug_on}
use Rattle.dp_commands.specs.Run.{run_of_texts}
use Rattle.dp_commands.specs.Verbose.{InForce, WritesVerboseDebug, debug_with, first_in_force}
use Rattle.dp_commands.specs.declared.fault.PbxFault.{PbxFault}
use Rattle.dp_commands.proofs.VerboseLemmas.{debug_refused, run_refused, verbose_debug_refused}
use Rattle.dp_commands.proofs.verbose_debug.debug_verbose.Goals as goal

-- the run is refused because of its dialplan, after its break was read
pub returns-in-Err-clause-writes : goal.returns-in-Err-clause-writes
unfolding debug_of
returns-in-Err-clause-writes g c =
    let old = g.W.WriteTold.contents c.args.writer.now in
    let run = run_of_texts c.args.texts in
    let in_force = first_in_force c.args.names.plan.now (option_map (λ name. name.now) c.args.names.second_plan) c.args.texts.plan.now in
    subst (λ (found : Result Break PbxFault). WritesVerboseDebug g.E.Explanations.explanation_of in_force old old (found >>= λ it. run >>= λ all. Ok (debug_on it all)) (Err c.in-Err.fault))
    (sym c.in_ok-held.ensures.held)
    (verbose_debug_refused g.E.Explanations.explanation_of in_force old (debug_with c.in_ok-held.held run) c.in-Err.fault
    (debug_refused c.in_ok-held.held run c.in-Err.fault
    (run_refused c.args.texts.plan.now (option_map (λ text. text.now) c.args.texts.queues) (option_map (λ text. text.now) c.args.texts.second_plan) c.args.texts.script.now
    c.in-Err.fault c.in-Err.ensures.fault)))

-- the turns are taken under a debugger with the break that was read
pub returns-in-Ok-clause-writes : goal.returns-in-Ok-clause-writes
unfolding debug_of
returns-in-Ok-clause-writes g c =
    let old = g.W.WriteTold.contents c.args.writer.now in
    let new = g.W.WriteTold.contents c.debug_in_force.new.writer in
    let run = run_of_texts c.args.texts in
    let at_first = first_in_force c.args.names.plan.now (option_map (λ name. name.now) c.args.names.second_plan) c.args.texts.plan.now in
    subst (λ (found : Result Break PbxFault). WritesVerboseDebug g.E.Explanations.explanation_of at_first old new (found >>= λ it. run >>= λ all. Ok (debug_on it all)) c.debug_in_force.result)
    (sym c.in_ok-held.ensures.held)
    (subst (λ (at : InForce). WritesVerboseDebug g.E.Explanations.explanation_of at old new (debug_with c.in_ok-held.held run) c.debug_in_force.result) c.in-Ok.ensures.plan
    c.debug_in_force.ensures.writes)
