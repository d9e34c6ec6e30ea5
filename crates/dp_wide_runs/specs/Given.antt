-- The turns that a run with facts gives the machine, and when they are those of a plain script.
use Rattle.std.specs.Prelude.{◌≡◌, ℕ, List, [], ◌∷◌, ◌++◌, length, map, Option, Some, None, if◌then◌else◌}
use Rattle.std.specs.Option.{option_map, option_to_list}
use Rattle.dp_machine.specs.Replay.{world_after}
use Rattle.dp_machine.specs.World.{World}
use Rattle.dp_machine.specs.declared.event.Event.TheVariants.{Step, Redirect}
use Rattle.dp_machine.specs.declared.unknown.Unknown.{Unknown}
use Rattle.dp_commands.specs.Threads.{events_in}
use Rattle.dp_commands.specs.Trace.{after_turn_by}
use Rattle.dp_commands.specs.Turns.{lines_of, state_past}
use Rattle.dp_commands.specs.declared.script.Turn.{Turn}
use Rattle.dp_commands.specs.declared.script.Turn.TheVariants.{Event}
use Rattle.dp_wide_runs.specs.Lines.{stepped_by}
use Rattle.dp_wide_runs.specs.Shows.{call_in, call_value, value_line}
use Rattle.dp_wide_runs.specs.Turns.{Stops, place_after, place_of_unknown, unknown_at, wide_meanings, wide_turn}
use Rattle.dp_wide_runs.specs.declared.wide_turn.WideTurn.{WideTurn}
use Rattle.dp_wide_runs.specs.declared.wide_turn.WideTurn.TheVariants.{Plain, Further, Pass}

-- a step is given if nothing is unknown ahead
abbrev pub step_given : ℕ → Option Unknown → Option Turn
step_given number None = Some (Event (Step number))
step_given number (Some what) = None

-- the plain script's turn that a turn is given as, given the channel of which it is a step
abbrev pub first_given : World → Turn → Option ℕ → Option Turn
first_given w turn None = Some turn
first_given w turn (Some number) = step_given number (unknown_at w number)

-- the plain script's turn that a turn is given as; None if it is left out, and for a step or a pass that is not taken
abbrev pub given_as : Stops × World → WideTurn → Option Turn
given_as at (Plain turn) = first_given at.1 turn (stepped_by turn)
given_as at (Further number) = if at.0.line_is_over then None else step_given number (unknown_at at.1 number)
given_as at (Pass number) = option_map (λ place. Event (Redirect number (place_after place))) (place_of_unknown at.1 number)

-- the plain script's turn as which a turn that shows a call is taken, given the value of the call: none if it has a value
abbrev pub call_taken : Turn → Option (List ℕ) → Option Turn
call_taken turn None = Some turn
call_taken turn (Some value) = None

-- the plain script's turn as which a turn that steps no channel is taken, given the call that it shows
abbrev pub stepless_taken : World → Turn → Option (ℕ × List ℕ) → Option Turn
stepless_taken w turn None = Some turn
stepless_taken w turn (Some call) = call_taken turn (call_value w call)

-- the plain script's turn as which a turn is taken, given the channel of which it is a step
abbrev pub first_taken : World → Turn → Option ℕ → Option Turn
first_taken w turn None = stepless_taken w turn (call_in turn)
first_taken w turn (Some number) = step_given number (unknown_at w number)

-- the plain script's turn as which a turn is taken: that which it is given as, but none if it shows the value of a call
abbrev pub taken_as : Stops × World → WideTurn → Option Turn
taken_as at (Plain turn) = first_taken at.1 turn (stepped_by turn)
taken_as at (Further number) = given_as at (Further number)
taken_as at (Pass number) = given_as at (Pass number)

-- a turn of a plain script, and the world that it meets
pub record Meets : Type 0 where
  pub world : World
  pub turn : Turn

-- the turn of a plain script that a turn is given as, and the world that it meets
abbrev pub meeting : World → Turn → Meets
meeting w turn = record { world = w; turn = turn }

-- the turns of a plain script that a list of turns is given as, and the worlds that they meet
abbrev pub meetings : Stops × World → List WideTurn → List Meets
meetings at [] = []
meetings at (turn ∷ turns) =
    option_to_list (option_map (meeting at.1) (given_as at turn)) ++ meetings (wide_turn at turn).state turns

-- a step never meets a world in which something is unknown ahead of its channel
abbrev pub IsKnown : Meets → Type 0
IsKnown met = (number : ℕ) → met.turn ≡ Event (Step number) → unknown_at met.world number ≡ None

-- the turns of a plain script that a list of turns is given as
abbrev pub turns_given : Stops × World → List WideTurn → List Turn
turns_given at turns = map (λ met. met.turn) (meetings at turns)

-- the line of a turn of a plain script that shows this call, given its value
abbrev pub call_line : World → Turn → ℕ × List ℕ → Option (List ℕ) → List ℕ
call_line w turn call None = (after_turn_by wide_meanings w turn).line
call_line w turn call (Some value) = value_line call.1 value

-- the line of a turn of a plain script, given the call that it shows
abbrev pub line_by : World → Turn → Option (ℕ × List ℕ) → List ℕ
line_by w turn None = (after_turn_by wide_meanings w turn).line
line_by w turn (Some call) = call_line w turn call (call_value w call)

-- the trace of the turns of a plain script, in which a call is shown with the value of its group
abbrev pub wide_trace : World → List Turn → List ℕ
wide_trace w [] = []
wide_trace w (turn ∷ turns) = line_by w turn (call_in turn) ++ wide_trace (after_turn_by wide_meanings w turn).world turns

-- the turns are those of a plain script over the wide table: each is given as one, their lines are its trace, and the last world is the one
-- that replays its events. A `show` is given as that of the plain script, also if it shows a call
pub record AreAllGiven (at : Stops × World) (turns : List WideTurn) : Type 0 where
  pub each : length (turns_given at turns) ≡ length turns
  pub trace : lines_of wide_turn at turns ≡ wide_trace at.1 (turns_given at turns)
  pub world : (state_past wide_turn at turns).1 ≡ world_after wide_meanings at.1 (events_in (turns_given at turns))
