-- What a run with facts gives the machine: only steps ahead of which everything is known, and a plain script if it ends with status 0.
use Rattle.std.proofs.Common.{◌≡◌, ℕ, Bool, true, false, List, [], ◌∷◌, ◌++◌, Option, Some, None, length, map, suc, refl, ap, subst, sym, ◌∙◌, if◌then◌else◌}
use Rattle.std.specs.List.{All, AllByRecursion}
use Rattle.std.specs.Option.{option_map, option_to_list}
use Rattle.std.proofs.lemmas.Bool.{or_parts}
use Rattle.std.proofs.lemmas.List.Elements.{All-append, All-cons, All-nil}
use Rattle.dp_machine.specs.Replay.{world_after}
use Rattle.dp_machine.specs.World.{World}
use Rattle.dp_machine.specs.declared.event.Event.TheVariants.{Step, Redirect}
use Rattle.dp_machine.specs.declared.unknown.Unknown.{Unknown}
use Rattle.dp_app.specs.declared.place.Place.{Place}
use Rattle.dp_commands.specs.Threads.{events_in}
use Rattle.dp_commands.specs.Trace.{after_turn_by, trace_by}
use Rattle.dp_commands.specs.Turns.{lines_of, refused_in, state_past}
use Rattle.dp_commands.specs.declared.script.Turn.{Turn}
use Rattle.dp_commands.specs.declared.script.Turn.TheVariants.{Event, Show}
use Rattle.dp_wide_runs.specs.Given.{AreAllGiven, IsKnown, call_line, first_given, given_as, line_by, meeting, meetings, step_given, turns_given, wide_trace}
use Rattle.dp_wide_runs.specs.Lines.{stepped_by}
use Rattle.dp_wide_runs.specs.Shows.{call_in, call_unknown, call_value, value_line}
use Rattle.dp_wide_runs.specs.Turns.{Stops, call_turn, first_turn, pass_turn, place_after, place_of_unknown, step_turn, stepless_turn, unknown_at, value_turn, wide_meanings, wide_turn}
use Rattle.dp_wide_runs.specs.declared.wide_turn.WideTurn.{WideTurn}
use Rattle.dp_wide_runs.specs.declared.wide_turn.WideTurn.TheVariants.{Plain, Further, Pass}

true_is_false : true ≡ false → ⊥
true_is_false e = cc

-- nothing is unknown ahead of a step that is given to the machine
step_known : (w : World) (channel : ℕ) (unknown : Option Unknown) → unknown_at w channel ≡ unknown → (turn : Turn)
    → step_given channel unknown ≡ Some turn → IsKnown (meeting w turn)
step_known w channel None known turn given number is =
    let same : number ≡ channel = cc in
    subst (λ n. unknown_at w n ≡ None) (sym same) known
step_known w channel (Some what) known turn given number is = absurd cc

first_known : (w : World) (turn given : Turn) (channel : Option ℕ) → stepped_by turn ≡ channel → first_given w turn channel ≡ Some given
    → IsKnown (meeting w given)
first_known w turn given None steps as_given number is =
    let same : turn ≡ Event (Step number) = cc in
    let steps_on : stepped_by turn ≡ Some number = ap stepped_by same in
    absurd cc
first_known w turn given (Some channel) steps as_given number is = step_known w channel (unknown_at w channel) refl given as_given number is

further_known : (over : Bool) (w : World) (channel : ℕ) (turn : Turn)
    → (if over then None else step_given channel (unknown_at w channel)) ≡ Some turn → IsKnown (meeting w turn)
further_known true w channel turn given = absurd cc
further_known false w channel turn given = step_known w channel (unknown_at w channel) refl turn given

pass_known : (w : World) (channel : ℕ) (place : Option Place) (turn : Turn)
    → option_map (λ at. Event (Redirect channel (place_after at))) place ≡ Some turn → IsKnown (meeting w turn)
pass_known w channel None turn given number is = absurd cc
pass_known w channel (Some place) turn given number is = absurd cc

given_known : (at : Stops × World) (turn : WideTurn) (given : Turn) → given_as at turn ≡ Some given → IsKnown (meeting at.1 given)
given_known at (Plain turn) given as_given = first_known at.1 turn given (stepped_by turn) refl as_given
given_known at (Further channel) given as_given = further_known at.0.line_is_over at.1 channel given as_given
given_known at (Pass channel) given as_given = pass_known at.1 channel (place_of_unknown at.1 channel) given as_given

one_known : (at : Stops × World) (turn : WideTurn) (given : Option Turn) → given_as at turn ≡ given
    → All IsKnown (option_to_list (option_map (meeting at.1) given))
one_known at turn None as_given = All-nil IsKnown
one_known at turn (Some given) as_given = All-cons IsKnown (meeting at.1 given) [] (given_known at turn given as_given) (All-nil IsKnown)

-- and so it is for each step of a run
pub meetings_known : (at : Stops × World) (script : List WideTurn) → All IsKnown (meetings at script)
meetings_known at [] = All-nil IsKnown
meetings_known at (turn ∷ turns) =
    All-append IsKnown (option_to_list (option_map (meeting at.1) (given_as at turn))) (meetings (wide_turn at turn).state turns)
    (one_known at turn (given_as at turn) refl) (meetings_known (wide_turn at turn).state turns)

-- a run that has stopped stays stopped
step_stays : (stops : Stops) (w : World) (channel : ℕ) (unknown : Option Unknown) → stops.has_stopped ≡ true
    → (step_turn stops w channel unknown).state.0.has_stopped ≡ true
step_stays stops w channel None has = has
step_stays stops w channel (Some what) has = refl

value_stays : (stops : Stops) (w : World) (call : ℕ × List ℕ) (value : List ℕ) (unknown : Option (List ℕ)) → stops.has_stopped ≡ true
    → (value_turn stops w call value unknown).state.0.has_stopped ≡ true
value_stays stops w call value None has = has
value_stays stops w call value (Some what) has = refl

call_stays : (stops : Stops) (w : World) (turn : Turn) (call : ℕ × List ℕ) (value : Option (List ℕ)) → stops.has_stopped ≡ true
    → (call_turn stops w turn call value).state.0.has_stopped ≡ true
call_stays stops w turn call None has = has
call_stays stops w turn call (Some value) has = value_stays stops w call value (call_unknown w call) has

stepless_stays : (stops : Stops) (w : World) (turn : Turn) (call : Option (ℕ × List ℕ)) → stops.has_stopped ≡ true
    → (stepless_turn stops w turn call).state.0.has_stopped ≡ true
stepless_stays stops w turn None has = has
stepless_stays stops w turn (Some call) has = call_stays stops w turn call (call_value w call) has

first_stays : (stops : Stops) (w : World) (turn : Turn) (channel : Option ℕ) → stops.has_stopped ≡ true
    → (first_turn stops w turn channel).state.0.has_stopped ≡ true
first_stays stops w turn None has = stepless_stays stops w turn (call_in turn) has
first_stays stops w turn (Some channel) has = step_stays stops w channel (unknown_at w channel) has

further_stays : (over : Bool) (stops : Stops) (w : World) (channel : ℕ) → stops.has_stopped ≡ true
    → (if over then record { state = (stops, w); lines = []; refused = false } else step_turn stops w channel (unknown_at w channel)).state.0.has_stopped ≡ true
further_stays true stops w channel has = has
further_stays false stops w channel has = step_stays stops w channel (unknown_at w channel) has

pass_stays : (stops : Stops) (w : World) (channel : ℕ) (place : Option Place) → stops.has_stopped ≡ true
    → (pass_turn stops w channel place).state.0.has_stopped ≡ true
pass_stays stops w channel None has = has
pass_stays stops w channel (Some place) has = has

turn_stays : (at : Stops × World) (turn : WideTurn) → at.0.has_stopped ≡ true → (wide_turn at turn).state.0.has_stopped ≡ true
turn_stays at (Plain turn) has = first_stays at.0 at.1 turn (stepped_by turn) has
turn_stays at (Further channel) has = further_stays at.0.line_is_over at.0 at.1 channel has
turn_stays at (Pass channel) has = pass_stays at.0 at.1 channel (place_of_unknown at.1 channel) has

run_stays : (at : Stops × World) (turns : List WideTurn) → at.0.has_stopped ≡ true → (state_past wide_turn at turns).0.has_stopped ≡ true
run_stays at [] has = has
run_stays at (turn ∷ turns) has = run_stays (wide_turn at turn).state turns (turn_stays at turn has)

not_yet : (has : Bool) (later : Bool) → (has ≡ true → later ≡ true) → later ≡ false → has ≡ false
not_yet false later stays none = refl
not_yet true later stays none = absurd (true_is_false (sym (stays refl) ∙ none))

-- a turn that is given as one of a plain script, and has the same result
record IsGiven (w : World) (after : Stops × World) (lines : List ℕ) (given : Option Turn) : Type 0 where
  as_turn : Turn
  is : given ≡ Some as_turn
  world : after.1 ≡ (after_turn_by wide_meanings w as_turn).world
  line : lines ≡ line_by w as_turn (call_in as_turn)
  on : after.0.line_is_over ≡ false

step_is_given : (stops : Stops) (w : World) (channel : ℕ) (unknown : Option Unknown) → (step_turn stops w channel unknown).state.0.has_stopped ≡ false
    → IsGiven w (step_turn stops w channel unknown).state (step_turn stops w channel unknown).lines (step_given channel unknown)
step_is_given stops w channel None none = record { as_turn = Event (Step channel); is = refl; world = refl; line = refl; on = refl }
step_is_given stops w channel (Some what) none = absurd (true_is_false none)

-- a turn that steps no channel and does not stop: it changes no more than the plain script's turn, and has this line
record IsTold (w : World) (after : Stops × World) (lines : List ℕ) (turn : Turn) (line : List ℕ) : Type 0 where
  world : after.1 ≡ (after_turn_by wide_meanings w turn).world
  is : lines ≡ line
  on : after.0.line_is_over ≡ false

value_is_told : (stops : Stops) (w : World) (number : ℕ) (name : List ℕ) (call : ℕ × List ℕ) (value : List ℕ) (unknown : Option (List ℕ))
    → stops.line_is_over ≡ false → (value_turn stops w call value unknown).state.0.has_stopped ≡ false
    → IsTold w (value_turn stops w call value unknown).state (value_turn stops w call value unknown).lines (Show number name) (value_line call.1 value)
value_is_told stops w number name call value None on none = record { world = refl; is = refl; on = on }
value_is_told stops w number name call value (Some what) on none = absurd (true_is_false none)

call_is_told : (stops : Stops) (w : World) (number : ℕ) (name : List ℕ) (call : ℕ × List ℕ) (value : Option (List ℕ))
    → stops.line_is_over ≡ false → (call_turn stops w (Show number name) call value).state.0.has_stopped ≡ false
    → IsTold w (call_turn stops w (Show number name) call value).state (call_turn stops w (Show number name) call value).lines (Show number name)
    (call_line w (Show number name) call value)
call_is_told stops w number name call None on none = record { world = refl; is = refl; on = on }
call_is_told stops w number name call (Some value) on none = value_is_told stops w number name call value (call_unknown w call) on none

stepless_is_told : (stops : Stops) (w : World) (number : ℕ) (name : List ℕ) (call : Option (ℕ × List ℕ))
    → stops.line_is_over ≡ false → (stepless_turn stops w (Show number name) call).state.0.has_stopped ≡ false
    → IsTold w (stepless_turn stops w (Show number name) call).state (stepless_turn stops w (Show number name) call).lines (Show number name)
    (line_by w (Show number name) call)
stepless_is_told stops w number name None on none = record { world = refl; is = refl; on = on }
stepless_is_told stops w number name (Some call) on none = call_is_told stops w number name call (call_value w call) on none

stepless_is_given : (stops : Stops) (w : World) (turn : Turn) → stops.line_is_over ≡ false
    → (stepless_turn stops w turn (call_in turn)).state.0.has_stopped ≡ false
    → IsGiven w (stepless_turn stops w turn (call_in turn)).state (stepless_turn stops w turn (call_in turn)).lines (Some turn)
stepless_is_given stops w (Event event) on none = record { as_turn = Event event; is = refl; world = refl; line = refl; on = on }
stepless_is_given stops w (Show number name) on none =
    let told = stepless_is_told stops w number name (call_in (Show number name)) on none in
    record { as_turn = Show number name; is = refl; world = told.world; line = told.is; on = told.on }

first_is_given : (stops : Stops) (w : World) (turn : Turn) (channel : Option ℕ) → stops.line_is_over ≡ false
    → (first_turn stops w turn channel).state.0.has_stopped ≡ false
    → IsGiven w (first_turn stops w turn channel).state (first_turn stops w turn channel).lines (first_given w turn channel)
first_is_given stops w turn None on none = stepless_is_given stops w turn on none
first_is_given stops w turn (Some channel) on none = step_is_given stops w channel (unknown_at w channel) none

further_is_given : (over : Bool) (stops : Stops) (w : World) (channel : ℕ) → over ≡ false
    → (if over then record { state = (stops, w); lines = []; refused = false } else step_turn stops w channel (unknown_at w channel)).state.0.has_stopped ≡ false
    → IsGiven w (if over then record { state = (stops, w); lines = []; refused = false } else step_turn stops w channel (unknown_at w channel)).state
    (if over then record { state = (stops, w); lines = []; refused = false } else step_turn stops w channel (unknown_at w channel)).lines
    (if over then None else step_given channel (unknown_at w channel))
further_is_given true stops w channel on none = absurd (true_is_false on)
further_is_given false stops w channel on none = step_is_given stops w channel (unknown_at w channel) none

pass_is_given : (stops : Stops) (w : World) (channel : ℕ) (place : Option Place) → stops.line_is_over ≡ false
    → (pass_turn stops w channel place).refused ≡ false
    → IsGiven w (pass_turn stops w channel place).state (pass_turn stops w channel place).lines
    (option_map (λ at. Event (Redirect channel (place_after at))) place)
pass_is_given stops w channel None on taken = absurd (true_is_false taken)
pass_is_given stops w channel (Some place) on taken =
    record { as_turn = Event (Redirect channel (place_after place)); is = refl; world = refl; line = refl; on = on }

turn_is_given : (at : Stops × World) (turn : WideTurn) → at.0.line_is_over ≡ false → (wide_turn at turn).refused ≡ false
    → (wide_turn at turn).state.0.has_stopped ≡ false
    → IsGiven at.1 (wide_turn at turn).state (wide_turn at turn).lines (given_as at turn)
turn_is_given at (Plain turn) on taken none = first_is_given at.0 at.1 turn (stepped_by turn) on none
turn_is_given at (Further channel) on taken none = further_is_given at.0.line_is_over at.0 at.1 channel on none
turn_is_given at (Pass channel) on taken none = pass_is_given at.0 at.1 channel (place_of_unknown at.1 channel) on taken

-- the world after a turn of a plain script is the one after its events
world_past : (w : World) (turn : Turn) (turns : List Turn)
    → world_after wide_meanings w (events_in (turn ∷ turns)) ≡ world_after wide_meanings (after_turn_by wide_meanings w turn).world (events_in turns)
world_past w (Event event) turns = refl
world_past w (Show number name) turns = refl

-- the turns of a run that goes on, has no refusal and does not stop
pub all_given : (at : Stops × World) (turns : List WideTurn) → at.0.line_is_over ≡ false → refused_in wide_turn at turns ≡ false
    → (state_past wide_turn at turns).0.has_stopped ≡ false → AreAllGiven at turns
all_given at [] on taken none = record { each = refl; trace = refl; world = refl }
all_given at (turn ∷ turns) on taken none =
    let next : Stops × World = (wide_turn at turn).state in
    let parts : ((wide_turn at turn).refused ≡ false) × (refused_in wide_turn next turns ≡ false) = or_parts (wide_turn at turn).refused (refused_in wide_turn next turns) taken in
    let yet : next.0.has_stopped ≡ false = not_yet next.0.has_stopped (state_past wide_turn next turns).0.has_stopped (run_stays next turns) none in
    let one : IsGiven at.1 next (wide_turn at turn).lines (given_as at turn) = turn_is_given at turn on parts.0 yet in
    let rest : AreAllGiven next turns = all_given next turns one.on parts.1 none in
    let later : List Turn = turns_given next turns in
    let given : turns_given at (turn ∷ turns) ≡ one.as_turn ∷ later =
    ap (λ (g : Option Turn). map (λ met. met.turn) (option_to_list (option_map (meeting at.1) g) ++ meetings next turns)) one.is in
    let after : World = (after_turn_by wide_meanings at.1 one.as_turn).world in
    record {
      each = ap (λ (ts : List Turn). length ts) given ∙ ap suc rest.each;
      trace =
          ap (λ (bytes : List ℕ). bytes ++ lines_of wide_turn next turns) one.line
          ∙ (ap (λ (bytes : List ℕ). line_by at.1 one.as_turn (call_in one.as_turn) ++ bytes) (rest.trace ∙ ap (λ w. wide_trace w later) one.world)
          ∙ sym (ap (λ (ts : List Turn). wide_trace at.1 ts) given));
      world =
          rest.world ∙ (ap (λ w. world_after wide_meanings w (events_in later)) one.world
          ∙ (sym (world_past at.1 one.as_turn later) ∙ sym (ap (λ (ts : List Turn). world_after wide_meanings at.1 (events_in ts)) given)));
    }

-- without calls, the trace is that of the plain script
pub trace_without_calls : (w : World) (turns : List Turn) → AllByRecursion (λ turn. call_in turn ≡ None) turns
    → wide_trace w turns ≡ trace_by wide_meanings w turns
trace_without_calls w [] none = refl
trace_without_calls w (turn ∷ turns) none =
    ap (λ (call : Option (ℕ × List ℕ)). line_by w turn call ++ wide_trace (after_turn_by wide_meanings w turn).world turns) none.0
    ∙ ap (λ (bytes : List ℕ). (after_turn_by wide_meanings w turn).line ++ bytes)
    (trace_without_calls (after_turn_by wide_meanings w turn).world turns none.1)
