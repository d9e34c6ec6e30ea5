-- A test that does not reload leaves the dialplan in force as it is.
use Rattle.std.proofs.Common.{◌≡◌, ℕ, zero, suc, Bool, true, false, ◌||◌, List, [], ◌∷◌, ◌++◌, fold, map, replicate, Option, Some, None, refl, sym, ap, ◌∙◌}
use Rattle.std.specs.List.{list_any}
use Rattle.std.specs.Option.{option_map}
use Rattle.std.proofs.lemmas.List.Folds.{list_any-append}
use Rattle.dp_app.specs.declared.place.Place.{Place}
use Rattle.dp_machine.specs.Reloading.{is_reload}
use Rattle.dp_machine.specs.Replay.{final_world, world_after}
use Rattle.dp_machine.specs.World.{World}
use Rattle.dp_machine.specs.declared.event.Event.{Event}
use Rattle.dp_machine.specs.declared.event.Event.TheVariants.{Redirect, Step}
use Rattle.dp_machine.specs.declared.unknown.Unknown.{Unknown}
use Rattle.dp_machine.proofs.IsolationLemmas.{none-of}
use Rattle.dp_machine.proofs.PlanLemmas.{first-fails, plan_stays, plan_stays_after, second-fails}
use Rattle.dp_commands.specs.Script.{line_turns, turns_of}
use Rattle.dp_commands.specs.declared.script.ScriptLine.{ScriptLine}
use Rattle.dp_commands.specs.declared.script.Turn.TheVariants.{Event as turn_event, Show}
use Rattle.dp_wide_runs.specs.Given.{first_given, step_given}
use Rattle.dp_wide_runs.specs.Lines.{stepped_channel}
use Rattle.dp_wide_runs.specs.Turns.{place_after, place_of_unknown, unknown_at, wide_meanings}
use Rattle.dp_wide_runs.specs.declared.wide_turn.WideTurn.{WideTurn}
use Rattle.dp_wide_runs.specs.declared.wide_turn.WideTurn.TheVariants.{Plain, Further, Pass}
use Rattle.dp_tests.specs.declared.file.Act.{Act}
use Rattle.dp_tests.specs.declared.file.Act.TheVariants as acts
use Rattle.dp_tests.specs.declared.file.HeadLine.{HeadLine}
use Rattle.dp_tests.specs.declared.file.Test.{Test}
use Rattle.dp_tests.specs.declared.file.TestFile.{TestFile}
use Rattle.dp_tests.specs.declared.file.TestLine.{TestLine}
use Rattle.dp_test_runs.specs.Courses.{after_event, after_given, after_turn, after_turns, at_line, event_given, event_in}
use Rattle.dp_test_runs.specs.Settling.{most_steps, stepped_within, steps_of, steps_within}
use Rattle.dp_test_runs.specs.Tests.{Ended, after_act, after_fact, after_head, test_end, ended_after, ended_in, ended_test, failure_at_end, failure_of, go_on}
use Rattle.dp_test_runs.specs.declared.course.Course.{Course}
use Rattle.dp_test_runs.specs.declared.failure.Failure.{Failure}
use Rattle.dp_test_runs.specs.declared.named_text.NamedFileText.{NamedFileText}
use Rattle.dp_test_runs.specs.steps.Reloads.{act_reloads, fact_reloads, lines_reload, start_reloads, test_reloads, turn_reloads, turns_reload}

-- ---- events

-- steps are no reloads
steps-none : (numbers : List ℕ) → list_any is_reload (map Step numbers) ≡ false
steps-none [] = refl
steps-none (number ∷ numbers) = steps-none numbers

steps-keep : (left : ℕ) (w : World) → (world_after wide_meanings w (steps_within left w)).plan ≡ w.plan
steps-keep left w = plan_stays_after wide_meanings w (steps_within left w) (steps-none (stepped_within left w))

settled-keeps : (w : World) → (world_after wide_meanings w (steps_of w)).plan ≡ w.plan
unfolding steps_of
settled-keeps w = steps-keep most_steps w

-- an event that is no reload, with the steps that follow it
event-keeps : (course : Course) (event : Event) → is_reload event ≡ false → (after_event course event).machine.plan ≡ course.machine.plan
event-keeps course event other =
    settled-keeps (final_world wide_meanings course.machine event) ∙ plan_stays wide_meanings course.machine event other

-- ---- turns

-- whether there is an event, and it is a reload
abbrev reload_in : Option Event → Bool
reload_in None = false
reload_in (Some event) = is_reload event

step-given : (number : ℕ) (what : Option Unknown) → reload_in (event_in (step_given number what)) ≡ false
step-given number None = refl
step-given number (Some what) = refl

first-given : (w : World) (event : Event) (at : Option ℕ) → is_reload event ≡ false → reload_in (event_in (first_given w (turn_event event) at)) ≡ false
first-given w event None other = other
first-given w event (Some number) other = step-given number (unknown_at w number)

pass-given : (number : ℕ) (place : Option Place)
    → reload_in (event_in (option_map (λ place. turn_event (Redirect number (place_after place))) place)) ≡ false
pass-given number None = refl
pass-given number (Some place) = refl

-- the event of a turn that is no reload
turn-given : (w : World) (turn : WideTurn) → turn_reloads turn ≡ false → reload_in (event_given w turn) ≡ false
unfolding event_given
turn-given w (Plain (turn_event event)) other = first-given w event (stepped_channel event) other
turn-given w (Plain (Show number name)) other = refl
turn-given w (Further number) other = step-given number (unknown_at w number)
turn-given w (Pass number) other = pass-given number (place_of_unknown w number)

given-keeps : (course : Course) (turn : WideTurn) (given : Option Event) → reload_in given ≡ false
    → (after_given course turn given).machine.plan ≡ course.machine.plan
given-keeps course turn None other = refl
given-keeps course turn (Some event) other = event-keeps course event other

-- turns, one after another
turns-keep : (course : Course) (turns : List WideTurn) → list_any turn_reloads turns ≡ false
    → (fold after_turn course turns).machine.plan ≡ course.machine.plan
turns-keep course [] none = refl
turns-keep course (turn ∷ turns) none =
    turns-keep (after_turn course turn) turns (second-fails (turn_reloads turn) (list_any turn_reloads turns) none)
    ∙ given-keeps course turn (event_given course.machine turn)
    (turn-given course.machine turn (first-fails (turn_reloads turn) (list_any turn_reloads turns) none))

copies-none : (count : ℕ) (turn : WideTurn) → turn_reloads turn ≡ false → list_any turn_reloads (replicate count turn) ≡ false
copies-none zero turn other = refl
copies-none (suc count) turn other =
    ap (λ (b : Bool). b || list_any turn_reloads (replicate count turn)) other ∙ copies-none count turn other

-- the turns of lines of which none reloads
turns-none : (lines : List (ScriptLine WideTurn)) → turns_reload lines ≡ false → list_any turn_reloads (turns_of lines) ≡ false
turns-none [] none = refl
turns-none (line ∷ lines) none =
    list_any-append turn_reloads (line_turns line) (turns_of lines)
    ∙ (ap (λ (b : Bool). b || list_any turn_reloads (turns_of lines))
    (copies-none line.count line.turn (first-fails (turn_reloads line.turn) (turns_reload lines) none))
    ∙ turns-none lines (second-fails (turn_reloads line.turn) (turns_reload lines) none))

line-keeps : (course : Course) (turns : List (ScriptLine WideTurn)) → turns_reload turns ≡ false
    → (after_turns course turns).machine.plan ≡ course.machine.plan
line-keeps course turns none = turns-keep (at_line course) (turns_of turns) (turns-none turns none)

-- ---- lines

act-keeps : (files : List NamedFileText) (course : Course) (act : Act) → act_reloads act ≡ false
    → (after_act files course act).machine.plan ≡ course.machine.plan
act-keeps files course (acts.Turns turns) none = line-keeps course turns none
act-keeps files course (acts.Reload name) none = none-of (sym none)
act-keeps files course (acts.Expect expectation) none = refl

-- what follows, unless something has failed
unless-keeps : (course : Course) (failure : Option Failure) (later : Course → Ended) → (later course).course.machine.plan ≡ course.machine.plan
    → (go_on course failure later).course.machine.plan ≡ course.machine.plan
unless-keeps course None later keeps = keeps
unless-keeps course (Some failure) later keeps = refl

-- lines, one after another until one fails
lines-keep : (files : List NamedFileText) (course : Course) (lines : List TestLine) → lines_reload lines ≡ false
    → (ended_after files course lines).course.machine.plan ≡ course.machine.plan
lines-keep files course [] none = refl
lines-keep files course (line ∷ lines) none =
    let next : Course = after_act files course line.act in
    unless-keeps next (failure_of next line.line lines line.act) (λ (c : Course). ended_after files c lines)
    (lines-keep files next lines (second-fails (act_reloads line.act) (lines_reload lines) none))
    ∙ act-keeps files course line.act (first-fails (act_reloads line.act) (lines_reload lines) none)

-- ---- tests

fact-keeps : (course : Course) (head : Option HeadLine) → fact_reloads head ≡ false → (after_fact course head).machine.plan ≡ course.machine.plan
fact-keeps course None none = refl
fact-keeps course (Some head) none = line-keeps course head.turns none

-- a test after its setup
rest-keeps : (files : List NamedFileText) (test : Test) (course : Course) → lines_reload test.lines ≡ false
    → (ended_test files test course).course.machine.plan ≡ course.machine.plan
rest-keeps files test course none =
    let last : Ended = ended_after files course test.lines in
    unless-keeps last.course last.failure (λ (c : Course). test_end c (failure_at_end c.machine test)) refl ∙ lines-keep files course test.lines none

-- a whole test
pub test_keeps : (files : List NamedFileText) (file : TestFile) (test : Test) (course : Course) → test_reloads file test ≡ false
    → (ended_in files file test course).course.machine.plan ≡ course.machine.plan
test_keeps files file test course none =
    let start : start_reloads file ≡ false = first-fails (start_reloads file) (lines_reload test.lines) none in
    let facts : (fact_reloads file.clock || fact_reloads file.assume) ≡ false =
    first-fails (fact_reloads file.clock || fact_reloads file.assume) (lines_reload file.setup) start in
    let setup : lines_reload file.setup ≡ false =
    second-fails (fact_reloads file.clock || fact_reloads file.assume) (lines_reload file.setup) start in
    let clocked : Course = after_fact course file.clock in
    let headed : Course = after_head course file in
    let set : Ended = ended_after files headed file.setup in
    unless-keeps set.course set.failure (ended_test files test)
    (rest-keeps files test set.course (second-fails (start_reloads file) (lines_reload test.lines) none))
    ∙ (lines-keep files headed file.setup setup
    ∙ (fact-keeps clocked file.assume (second-fails (fact_reloads file.clock) (fact_reloads file.assume) facts)
    ∙ fact-keeps course file.clock (first-fails (fact_reloads file.clock) (fact_reloads file.assume) facts)))
