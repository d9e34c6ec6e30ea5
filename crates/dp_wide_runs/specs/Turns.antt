-- The result of each turn of a script with facts: no step goes to the machine while something is unknown ahead of its channel, and no value
-- is shown of a call while it is unknown.
use Rattle.std.specs.Prelude.{ℕ, ◌+◌, ◌-◌, ◌^◌, min, Bool, true, false, List, [], ◌∷◌, ◌++◌, Option, Some, None, codes, decimal, if◌then◌else◌}
use Rattle.std.specs.Option.{option_and_then, option_map}
use Rattle.dp_app.specs.Rows.{Meanings, with_functions}
use Rattle.dp_app.specs.declared.phase.Phase.{Phase}
use Rattle.dp_app.specs.declared.phase.Phase.TheVariants.{Ready, Digits, Pause, Queued, Talking, Dialling, Ended as phase_ended}
use Rattle.dp_app.specs.declared.place.Place.{Place}
use Rattle.dp_machine.specs.Unknown.{unknown_ahead}
use Rattle.dp_machine.specs.World.{World, channel_at}
use Rattle.dp_machine.specs.declared.event.Event.TheVariants.{Step, Redirect}
use Rattle.dp_machine.specs.declared.refusal.Refusal.{Refusal}
use Rattle.dp_machine.specs.declared.refusal.Refusal.TheVariants.{NoChannel, NotReady, Ended}
use Rattle.dp_machine.specs.declared.unknown.Unknown.{Unknown}
use Rattle.dp_machine.specs.declared.unknown.Unknown.TheVariants.{Application, Asked, Group}
use Rattle.dp_wide.specs.Functions.{wide_functions}
use Rattle.dp_wide.specs.Wide.{wide_knowledge, wide_rows}
use Rattle.dp_commands.specs.Trace.{after_turn_by, phase_at, refusal_text, state_text}
use Rattle.dp_commands.specs.Turns.{Taken}
use Rattle.dp_commands.specs.declared.script.Turn.{Turn}
use Rattle.dp_commands.specs.declared.script.Turn.TheVariants.{Event}
use Rattle.dp_wide_runs.specs.Lines.{stepped_by}
use Rattle.dp_wide_runs.specs.Shows.{call_in, call_unknown, call_value, value_line}
use Rattle.dp_wide_runs.specs.declared.wide_turn.WideTurn.{WideTurn}
use Rattle.dp_wide_runs.specs.declared.wide_turn.WideTurn.TheVariants.{Plain, Further, Pass}

-- what the names of a dialplan mean in the wide table
abbrev pub wide_meanings : Meanings
wide_meanings = with_functions wide_rows wide_functions

-- what is unknown ahead of the channel with a number
abbrev pub unknown_at : World → ℕ → Option Unknown
unknown_at w number = unknown_ahead wide_meanings wide_knowledge w number

-- the name of something unknown
abbrev pub unknown_name : Unknown → List ℕ
unknown_name (Application name) = name
unknown_name (Group name) = name
unknown_name (Asked name) = name

-- the line of a step that is not taken, and of a value that is not shown, `unknown CH WHAT -> STATE`
abbrev pub unknown_line : World → ℕ → Unknown → List ℕ
unknown_line w number what =
    codes "unknown " ++ decimal number ++ codes " " ++ unknown_name what ++ (codes " -> " ++ state_text w number) ++ 10 ∷ []

-- where a run has stopped: whether the steps of the current line are over, and whether a step was ever not taken, or a value not shown
pub record Stops : Type 0 where
  pub line_is_over : Bool
  pub has_stopped : Bool

-- the stops of a run that has not begun
abbrev pub no_stops : Stops
no_stops = record { line_is_over = false; has_stopped = false }

-- the stops after a step was taken
abbrev pub after_step : Stops → Stops
after_step stops = record { line_is_over = false; has_stopped = stops.has_stopped }

-- the stops after a step was not taken
abbrev pub at_stop : Stops
at_stop = record { line_is_over = true; has_stopped = true }

-- the result of a plain script's turn over the wide table
abbrev pub plain_turn : Stops → World → Turn → Taken (Stops × World)
plain_turn stops w turn =
    record {
      state = (stops, (after_turn_by wide_meanings w turn).world);
      lines = (after_turn_by wide_meanings w turn).line;
      refused = (after_turn_by wide_meanings w turn).refused;
    }

-- the result of a step, given what is unknown ahead of its channel: the step is taken only if nothing is
abbrev pub step_turn : Stops → World → ℕ → Option Unknown → Taken (Stops × World)
step_turn stops w number None = plain_turn (after_step stops) w (Event (Step number))
step_turn stops w number (Some what) = record { state = (at_stop, w); lines = unknown_line w number what; refused = false }

-- the stops after a call was shown whose value is unknown: the steps of the line are not over
abbrev pub after_unknown : Stops → Stops
after_unknown stops = record { line_is_over = stops.line_is_over; has_stopped = true }

-- the result of a `show` of a call whose value is this, given what is unknown in it
abbrev pub value_turn : Stops → World → ℕ × List ℕ → List ℕ → Option (List ℕ) → Taken (Stops × World)
value_turn stops w call value None = record { state = (stops, w); lines = value_line call.1 value; refused = false }
value_turn stops w call value (Some what) =
    record { state = (after_unknown stops, w); lines = unknown_line w call.0 (Group what); refused = false }

-- the result of a `show` of a call, given its value; without a channel it has none, and the `show` is refused as that of any name is
abbrev pub call_turn : Stops → World → Turn → ℕ × List ℕ → Option (List ℕ) → Taken (Stops × World)
call_turn stops w turn call None = plain_turn stops w turn
call_turn stops w turn call (Some value) = value_turn stops w call value (call_unknown w call)

-- the result of a turn that steps no channel, given the call that it shows
abbrev pub stepless_turn : Stops → World → Turn → Option (ℕ × List ℕ) → Taken (Stops × World)
stepless_turn stops w turn None = plain_turn stops w turn
stepless_turn stops w turn (Some call) = call_turn stops w turn call (call_value w call)

-- the result of a turn, given the channel that it steps
abbrev pub first_turn : Stops → World → Turn → Option ℕ → Taken (Stops × World)
first_turn stops w turn None = stepless_turn stops w turn (call_in turn)
first_turn stops w turn (Some number) = step_turn stops w number (unknown_at w number)

-- the result of a further step of a line: it is left out if the line is over
abbrev pub further_turn : Stops → World → ℕ → Taken (Stops × World)
further_turn stops w number =
    if stops.line_is_over then record { state = (stops, w); lines = []; refused = false } else step_turn stops w number (unknown_at w number)

-- the priority after another; the greatest 32-bit number, which no entry has, stays
abbrev pub priority_after : ℕ → ℕ
priority_after priority = min (priority + 1) (2 ^ 32 - 1)

-- the place after another
abbrev pub place_after : Place → Place
place_after place = record place { priority = priority_after place.priority }

-- the place of a channel if something is unknown ahead of it
abbrev pub place_of_unknown : World → ℕ → Option Place
place_of_unknown w number =
    option_and_then (λ what. option_map (λ channel. channel.place) (channel_at w.channels number)) (unknown_at w number)

-- why a channel does not pass if nothing is unknown ahead of it, given its phase, if there is a channel
abbrev pub pass_refusal : Option Phase → Refusal
pass_refusal None = NoChannel
pass_refusal (Some phase_ended) = Ended
pass_refusal (Some Ready) = NotReady
pass_refusal (Some (Digits digits is_background)) = NotReady
pass_refusal (Some Pause) = NotReady
pass_refusal (Some (Queued queue goes_on has_timer)) = NotReady
pass_refusal (Some (Talking queue agent goes_on)) = NotReady
pass_refusal (Some (Dialling goes_on has_timer)) = NotReady

-- the result of a pass, given the channel's place if something is unknown ahead of it: a redirection to the next priority
abbrev pub pass_turn : Stops → World → ℕ → Option Place → Taken (Stops × World)
pass_turn stops w number None =
    record { state = (stops, w); lines = refusal_text (pass_refusal (phase_at w number)) ++ 10 ∷ []; refused = true }
pass_turn stops w number (Some place) = plain_turn stops w (Event (Redirect number (place_after place)))

-- the result of a turn
abbrev pub wide_turn : Stops × World → WideTurn → Taken (Stops × World)
wide_turn at (Plain turn) = first_turn at.0 at.1 turn (stepped_by turn)
wide_turn at (Further number) = further_turn at.0 at.1 number
wide_turn at (Pass number) = pass_turn at.0 at.1 number (place_of_unknown at.1 number)

-- the status of a run: 1 if a turn was refused, else 4 if a step was not taken or a value not shown
abbrev pub wide_status : Stops → Bool → ℕ
wide_status stops refused = if refused then 1 else (if stops.has_stopped then 4 else 0)
