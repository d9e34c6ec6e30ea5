-- The turns that show no value: those of the lines that show none.
use Rattle.std.proofs.Common.{◌≡◌, ℕ, zero, suc, Bool, true, false, not, List, [], ◌∷◌, ◌++◌, filter, replicate, fold, Option, Some, None, refl, ap, sym, ◌∙◌, if◌then◌else◌}
use Rattle.std.proofs.lemmas.List.Elements.{filter-append}
use Rattle.dp_app.specs.declared.place.Place.{Place}
use Rattle.dp_machine.specs.World.{World}
use Rattle.dp_machine.specs.declared.unknown.Unknown.{Unknown}
use Rattle.dp_commands.specs.Script.{turns_of}
use Rattle.dp_commands.specs.Turns.{state_past}
use Rattle.dp_commands.specs.declared.script.ScriptLine.{ScriptLine}
use Rattle.dp_commands.specs.declared.script.Turn.{Turn}
use Rattle.dp_commands.specs.declared.script.Turn.TheVariants.{Event, Show}
use Rattle.dp_wide_runs.specs.Debugging.{shows, without_shows}
use Rattle.dp_wide_runs.specs.Lines.{stepped_by}
use Rattle.dp_wide_runs.specs.Shows.{call_in, call_unknown, call_value}
use Rattle.dp_wide_runs.specs.Turns.{Stops, call_turn, first_turn, pass_turn, place_of_unknown, step_turn, stepless_turn, unknown_at, value_turn, wide_turn}
use Rattle.dp_wide_runs.specs.declared.wide_turn.WideTurn.{WideTurn}
use Rattle.dp_wide_runs.specs.declared.wide_turn.WideTurn.TheVariants.{Plain, Further, Pass}

-- a turn that is repeated passes each time, or never
repeated_passes : (turn : WideTurn) (count : ℕ) → shows turn ≡ false → without_shows (replicate count turn) ≡ replicate count turn
repeated_passes turn zero passes = refl
repeated_passes turn (suc count) passes = rw passes (ap (λ (turns : List WideTurn). turn ∷ turns) (repeated_passes turn count passes))

repeated_fails : (turn : WideTurn) (count : ℕ) → shows turn ≡ true → without_shows (replicate count turn) ≡ []
repeated_fails turn zero fails = refl
repeated_fails turn (suc count) fails = rw fails (repeated_fails turn count fails)

-- one more line, given whether its turn shows a value
skipped_by : (line : ScriptLine WideTurn) (lines : List (ScriptLine WideTurn)) (b : Bool) → shows line.turn ≡ b
    → turns_of (filter (λ line. not (shows line.turn)) lines) ≡ without_shows (turns_of lines)
    → turns_of (filter (λ line. not (shows line.turn)) (line ∷ lines)) ≡ without_shows (turns_of (line ∷ lines))
skipped_by line lines true shown rest =
    rw (shown, filter-append (λ turn. not (shows turn)) (replicate line.count line.turn) (turns_of lines), repeated_fails line.turn line.count shown) rest
skipped_by line lines false none rest =
    rw (none, filter-append (λ turn. not (shows turn)) (replicate line.count line.turn) (turns_of lines), repeated_passes line.turn line.count none)
    (ap (λ (turns : List WideTurn). replicate line.count line.turn ++ turns) rest)

-- the turns of the lines that show no value
pub turns_of_skipped : (lines : List (ScriptLine WideTurn))
    → turns_of (filter (λ line. not (shows line.turn)) lines) ≡ without_shows (turns_of lines)
turns_of_skipped [] = refl
turns_of_skipped (line ∷ lines) = skipped_by line lines (shows line.turn) refl (turns_of_skipped lines)

-- what the turns of a run depend on: whether the steps of the line are over, and the world
abbrev core : Stops × World → Bool × World
core at = (at.0.line_is_over, at.1)

-- the stops of a run that has not stopped yet
abbrev bare : Stops → Stops
bare stops = record { line_is_over = stops.line_is_over; has_stopped = false }

step_core : (stops : Stops) (w : World) (number : ℕ) (unknown : Option Unknown)
    → core (step_turn stops w number unknown).state ≡ core (step_turn (bare stops) w number unknown).state
step_core stops w number None = refl
step_core stops w number (Some what) = refl

value_core : (stops : Stops) (w : World) (call : ℕ × List ℕ) (value : List ℕ) (unknown : Option (List ℕ))
    → core (value_turn stops w call value unknown).state ≡ (stops.line_is_over, w)
value_core stops w call value None = refl
value_core stops w call value (Some what) = refl

call_core : (stops : Stops) (w : World) (number : ℕ) (name : List ℕ) (call : ℕ × List ℕ) (value : Option (List ℕ))
    → core (call_turn stops w (Show number name) call value).state ≡ (stops.line_is_over, w)
call_core stops w number name call None = refl
call_core stops w number name call (Some value) = value_core stops w call value (call_unknown w call)

-- a value that is shown changes nothing of it
show_core : (stops : Stops) (w : World) (number : ℕ) (name : List ℕ) (call : Option (ℕ × List ℕ))
    → core (stepless_turn stops w (Show number name) call).state ≡ (stops.line_is_over, w)
show_core stops w number name None = refl
show_core stops w number name (Some call) = call_core stops w number name call (call_value w call)

first_core : (stops : Stops) (w : World) (turn : Turn) (channel : Option ℕ)
    → core (first_turn stops w turn channel).state ≡ core (first_turn (bare stops) w turn channel).state
first_core stops w turn (Some number) = step_core stops w number (unknown_at w number)
first_core stops w (Event event) None = refl
first_core stops w (Show number name) None =
    show_core stops w number name (call_in (Show number name)) ∙ sym (show_core (bare stops) w number name (call_in (Show number name)))

further_core : (over : Bool) (stops : Stops) (w : World) (number : ℕ)
    → core (if over then record { state = (stops, w); lines = []; refused = false } else step_turn stops w number (unknown_at w number)).state
    ≡ core (if over then record { state = (bare stops, w); lines = []; refused = false } else step_turn (bare stops) w number (unknown_at w number)).state
further_core true stops w number = refl
further_core false stops w number = step_core stops w number (unknown_at w number)

pass_core : (stops : Stops) (w : World) (number : ℕ) (place : Option Place)
    → core (pass_turn stops w number place).state ≡ core (pass_turn (bare stops) w number place).state
pass_core stops w number None = refl
pass_core stops w number (Some place) = refl

-- the same after a turn
abbrev core_after : Bool × World → WideTurn → Bool × World
core_after at turn = core (wide_turn (record { line_is_over = at.0; has_stopped = false }, at.1) turn).state

turn_core : (at : Stops × World) (turn : WideTurn) → core (wide_turn at turn).state ≡ core_after (core at) turn
turn_core at (Plain turn) = first_core at.0 at.1 turn (stepped_by turn)
turn_core at (Further number) = further_core at.0.line_is_over at.0 at.1 number
turn_core at (Pass number) = pass_core at.0 at.1 number (place_of_unknown at.1 number)

-- and after turns
abbrev core_past : Bool × World → List WideTurn → Bool × World
core_past at turns = fold core_after at turns

past_core : (at : Stops × World) (turns : List WideTurn) → core (state_past wide_turn at turns) ≡ core_past (core at) turns
past_core at [] = refl
past_core at (turn ∷ turns) = past_core (wide_turn at turn).state turns ∙ ap (λ (c : Bool × World). core_past c turns) (turn_core at turn)

past_without_shows : (at : Bool × World) (turns : List WideTurn) → core_past at (without_shows turns) ≡ core_past at turns
past_without_shows at [] = refl
past_without_shows at (Plain (Event event) ∷ turns) = past_without_shows (core_after at (Plain (Event event))) turns
past_without_shows at (Plain (Show number name) ∷ turns) =
    past_without_shows at turns
    ∙ sym (ap (λ (c : Bool × World). core_past c turns)
    (show_core (record { line_is_over = at.0; has_stopped = false }) at.1 number name (call_in (Show number name))))
past_without_shows at (Further number ∷ turns) = past_without_shows (core_after at (Further number)) turns
past_without_shows at (Pass number ∷ turns) = past_without_shows (core_after at (Pass number)) turns

-- they lead to the same world
pub world_without_shows : (at : Stops × World) (turns : List WideTurn)
    → (state_past wide_turn at (without_shows turns)).1 ≡ (state_past wide_turn at turns).1
world_without_shows at turns =
    ap (λ (c : Bool × World). c.1) (past_core at (without_shows turns) ∙ (past_without_shows (core at) turns ∙ sym (past_core at turns)))
