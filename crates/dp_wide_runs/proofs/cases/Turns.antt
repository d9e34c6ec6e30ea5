-- Where a run has stopped, and its status.
use Rattle.std.proofs.Common.{◌≡◌, ℕ, true, false, List, [], None, Some, refl}
use Rattle.std.specs.Prelude.{codes}
use Rattle.dp_app.specs.declared.phase.Phase.TheVariants.{Ready, Ended as phase_ended}
use Rattle.dp_machine.specs.World.{World}
use Rattle.dp_machine.specs.declared.refusal.Refusal.TheVariants.{NoChannel, NotReady, Ended}
use Rattle.dp_machine.specs.declared.unknown.Unknown.{Unknown}
use Rattle.dp_machine.specs.declared.unknown.Unknown.TheVariants.{Group}
use Rattle.dp_wide_runs.specs.Given.{given_as}
use Rattle.dp_wide_runs.specs.Turns.{further_turn, no_stops, pass_refusal, priority_after, step_turn, at_stop, unknown_line, value_turn, wide_status}
use Rattle.dp_wide_runs.specs.declared.wide_turn.WideTurn.TheVariants.{Further}

-- a step does not change the world if something is unknown ahead of it
stops_here : (w : World) (channel : ℕ) (what : Unknown) → (step_turn no_stops w channel (Some what)).state ≡ (at_stop, w)
stops_here w channel what = refl

-- and the further steps of its line are left out
left_out : (w : World) (channel : ℕ) → (further_turn at_stop w channel).lines ≡ []
left_out w channel = refl

not_given : (w : World) (channel : ℕ) → given_as (at_stop, w) (Further channel) ≡ None
not_given w channel = refl

-- a later step is tried anew, and the run has still stopped once
asked_anew : (w : World) (channel : ℕ) → (step_turn at_stop w channel None).state.0 ≡ record { line_is_over = false; has_stopped = true }
asked_anew w channel = refl

status_of_a_stop : wide_status at_stop false ≡ 4
status_of_a_stop = refl

status_of_a_refusal : wide_status at_stop true ≡ 1
status_of_a_refusal = refl

status_of_neither : wide_status no_stops false ≡ 0
status_of_neither = refl

refused_without_channel : pass_refusal None ≡ NoChannel
refused_without_channel = refl

refused_when_over : pass_refusal (Some phase_ended) ≡ Ended
refused_when_over = refl

refused_when_known : pass_refusal (Some Ready) ≡ NotReady
refused_when_known = refl

next_priority : priority_after 1 ≡ 2
next_priority = refl

-- a `show` of a call whose value is unknown does not end the steps of its line, and the run has stopped once
unknown_call_stops : (w : World) (value what : List ℕ) → (value_turn no_stops w (1, codes "DB(k)") value (Some what)).state
    ≡ (record { line_is_over = false; has_stopped = true }, w)
unknown_call_stops w value what = refl

unknown_call_says_what : (w : World) (value what : List ℕ) → (value_turn no_stops w (1, codes "DB(k)") value (Some what)).lines ≡ unknown_line w 1 (Group what)
unknown_call_says_what w value what = refl

known_call_changes_nothing : (w : World) → (value_turn at_stop w (1, codes "DB(k)") (codes "5") None).state ≡ (at_stop, w)
known_call_changes_nothing w = refl

known_call_shows_its_value : (w : World) → (value_turn no_stops w (1, codes "DB(k)") (codes "5") None).lines ≡ codes "DB(k)=5\n"
known_call_shows_its_value w = refl
