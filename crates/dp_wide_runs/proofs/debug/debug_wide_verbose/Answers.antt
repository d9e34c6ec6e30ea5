use Rattle.std.proofs.Common.{Result, Err, IfOk, subst, sym}
use Rattle.std.specs.Option.{option_map}
use Rattle.dp_conf.specs.Answers.{◌>>=◌}
use Rattle.dp_debug.specs.declared.breaks.Break.{Break}
use Rattle.dp_commands.specs.LinePlaces.{places_of}
use Rattle.dp_commands.specs.Verbose.{InForce, first_in_force_at}
use Rattle.dp_commands.specs.declared.fault.PbxFault.{PbxFault}
use Rattle.dp_wide_runs.specs.Debugging.{HasSameStatus, WritesWideVerboseDebug, debug_with, wide_debug_of}
use Rattle.dp_wide_runs.specs.Runs.{run_of_texts}
use Rattle.dp_wide_runs.specs.Verbose.{above_refusal, above_turn, in_force_after}
use Rattle.dp_wide_runs.proofs.DebugLemmas.{debug_refused, refused_debug}
use Rattle.dp_wide_runs.proofs.debug.debug_wide_verbose.Goals as goal

-- the run is refused because of its dialplan, after its break was read
pub returns-in-Err-clause-writes : goal.returns-in-Err-clause-writes
unfolding wide_debug_of
returns-in-Err-clause-writes g c =
    let explanation = g.E.Explanations.explanation_of in
    let old = g.W.WriteTold.contents c.args.writer.now in
    let run = run_of_texts c.args.texts in
    let in_force = first_in_force_at (places_of c.args.places.plan) (option_map places_of c.args.places.second_plan) c.args.texts.plan.now in
    subst (λ (found : Result Break PbxFault). WritesWideVerboseDebug explanation in_force old old (found >>= λ held. debug_with held run) (Err c.in-Err.fault))
    (sym c.in_ok-held.ensures.held)
    (refused_debug in_force_after (above_turn explanation) (above_refusal explanation) in_force old (debug_with c.in_ok-held.held run) c.in-Err.fault
    (debug_refused c.in_ok-held.held c.args.texts.plan.now (option_map (λ text. text.now) c.args.texts.queues) (option_map (λ text. text.now) c.args.texts.second_plan) c.args.texts.script.now
    c.in-Err.fault c.in-Err.ensures.fault))

-- the turns are taken under a debugger with the break that was read
pub returns-in-Ok-clause-writes : goal.returns-in-Ok-clause-writes
unfolding wide_debug_of
returns-in-Ok-clause-writes g c =
    let explanation = g.E.Explanations.explanation_of in
    let old = g.W.WriteTold.contents c.args.writer.now in
    let new = g.W.WriteTold.contents c.debug_texts.new.writer in
    let run = run_of_texts c.args.texts in
    let at_first = first_in_force_at (places_of c.args.places.plan) (option_map places_of c.args.places.second_plan) c.args.texts.plan.now in
    subst (λ (found : Result Break PbxFault). WritesWideVerboseDebug explanation at_first old new (found >>= λ held. debug_with held run) c.debug_texts.result)
    (sym c.in_ok-held.ensures.held)
    (subst (λ (at : InForce). WritesWideVerboseDebug explanation at old new (debug_with c.in_ok-held.held run) c.debug_texts.result) c.in-Ok.ensures.plan
    c.debug_texts.ensures.writes)

pub returns-in-Ok-clause-status : goal.returns-in-Ok-clause-status
unfolding wide_debug_of
returns-in-Ok-clause-status g c =
    subst (λ (found : Result Break PbxFault). IfOk c.debug_texts.result (HasSameStatus (found >>= λ held. debug_with held (run_of_texts c.args.texts))))
    (sym c.in_ok-held.ensures.held) c.debug_texts.ensures.status
