-- What a test gives the machine, as one list of events: each event line gives its events, and after each of them the steps that follow it.
use Rattle.std.specs.Prelude.{◌≡◌, ℕ, List, [], ◌∷◌, ◌++◌, Option, Some, None}
use Rattle.dp_machine.specs.Replay.{world_after}
use Rattle.dp_machine.specs.World.{World}
use Rattle.dp_machine.specs.declared.event.Event.{Event}
use Rattle.dp_machine.specs.declared.event.Event.TheVariants.{Reload}
use Rattle.dp_commands.specs.Script.{turns_of}
use Rattle.dp_wide_runs.specs.Turns.{wide_meanings}
use Rattle.dp_wide_runs.specs.declared.wide_turn.WideTurn.{WideTurn}
use Rattle.dp_tests.specs.declared.file.Act.{Act}
use Rattle.dp_tests.specs.declared.file.Act.TheVariants as acts
use Rattle.dp_tests.specs.declared.file.HeadLine.{HeadLine}
use Rattle.dp_tests.specs.declared.file.Test.{Test}
use Rattle.dp_tests.specs.declared.file.TestFile.{TestFile}
use Rattle.dp_tests.specs.declared.file.TestLine.{TestLine}
use Rattle.dp_test_runs.specs.Courses.{after_turn, at_line, event_given, events_with, text_named}
use Rattle.dp_test_runs.specs.Ran.{ran_after}
use Rattle.dp_test_runs.specs.Tests.{after_act, after_fact, after_head, ended_after, failure_of}
use Rattle.dp_test_runs.specs.declared.course.Course.{Course}
use Rattle.dp_test_runs.specs.declared.failure.Failure.{Failure}
use Rattle.dp_test_runs.specs.declared.named_text.NamedFileText.{NamedFileText}

-- an event, if there is one, with the steps that follow it
abbrev pub events_by : World → Option Event → List Event
events_by w None = []
events_by w (Some event) = events_with w event

-- what turns give, one after another
abbrev pub events_of_turns : Course → List WideTurn → List Event
events_of_turns course [] = []
events_of_turns course (turn ∷ turns) =
    events_by course.machine (event_given course.machine turn) ++ events_of_turns (after_turn course turn) turns

-- what a reload gives
abbrev pub reload_of : Option (List ℕ) → Option Event
reload_of None = None
reload_of (Some text) = Some (Reload text)

-- what a line gives
abbrev pub events_of_act : List NamedFileText → Course → Act → List Event
events_of_act files course (acts.Turns turns) = events_of_turns (at_line course) (turns_of turns)
events_of_act files course (acts.Reload name) = events_by course.machine (reload_of (text_named files name))
events_of_act files course (acts.Expect expectation) = []

-- what follows is given only if nothing has failed
abbrev pub given_unless : Option Failure → List Event → List Event
given_unless None events = events
given_unless (Some failure) events = []

-- what lines give, one after another until one fails
abbrev pub events_of_lines : List NamedFileText → Course → List TestLine → List Event
events_of_lines files course [] = []
events_of_lines files course (line ∷ lines) =
    events_of_act files course line.act
    ++ given_unless (failure_of (after_act files course line.act) line.line lines line.act) (events_of_lines files (after_act files course line.act) lines)

-- what a line of the head that states a fact gives, if there is one
abbrev pub events_of_fact : Course → Option HeadLine → List Event
events_of_fact course None = []
events_of_fact course (Some head) = events_of_turns (at_line course) (turns_of head.turns)

-- what the head gives
abbrev pub events_of_head : Course → TestFile → List Event
events_of_head course file = events_of_fact course file.clock ++ events_of_fact (after_fact course file.clock) file.assume

-- what a test of a file gives, from its beginning: what the head states, the setup, and the lines of the test
abbrev pub events_of_test : List NamedFileText → TestFile → Test → Course → List Event
events_of_test files file test course =
    events_of_head course file ++ (events_of_lines files (after_head course file) file.setup
    ++ given_unless (ended_after files (after_head course file) file.setup).failure
    (events_of_lines files (ended_after files (after_head course file) file.setup).course test.lines))

-- a course is what these events make of another: its world is the one after them, and they ran what ran since
pub record ReplaysCourse (before after : Course) (events : List Event) : Type 0 where
  pub world : after.machine ≡ world_after wide_meanings before.machine events
  pub ran : after.ran ≡ before.ran ++ ran_after before.machine events
