-- The end of a test: its lines run one after another until one fails.
use Rattle.std.specs.Prelude.{ℕ, Bool, true, false, not, ◌&&◌, ◌||◌, ◌==◌, List, [], ◌∷◌, fold, Option, Some, None, is_some, if◌then◌else◌}
use Rattle.std.specs.List.{find}
use Rattle.std.specs.Option.{option_map, option_map_or}
use Rattle.dp_machine.specs.World.{World}
use Rattle.dp_machine.specs.declared.refusal.Refusal.{Refusal}
use Rattle.dp_wide_runs.specs.Turns.{unknown_at}
use Rattle.dp_tests.specs.declared.expectation.LineClaim.{LineClaim}
use Rattle.dp_tests.specs.declared.expectation.LineClaim.TheVariants.{State, Ran, Passed, At, Value, Rings, Waiting, Refused}
use Rattle.dp_tests.specs.declared.expectation.Expectation.{Expectation}
use Rattle.dp_tests.specs.declared.file.Act.{Act}
use Rattle.dp_tests.specs.declared.file.Act.TheVariants.{Turns, Reload, Expect}
use Rattle.dp_tests.specs.declared.file.HeadLine.{HeadLine}
use Rattle.dp_tests.specs.declared.file.Test.{Test}
use Rattle.dp_tests.specs.declared.file.TestFile.{TestFile}
use Rattle.dp_tests.specs.declared.file.TestLine.{TestLine}
use Rattle.dp_test_runs.specs.Courses.{after_reload, after_turns, number_named, text_named}
use Rattle.dp_test_runs.specs.Settling.{numbers_of}
use Rattle.dp_test_runs.specs.Verdicts.{is_met}
use Rattle.dp_test_runs.specs.declared.course.Course.{Course}
use Rattle.dp_test_runs.specs.declared.failure.Failure.{Failure}
use Rattle.dp_test_runs.specs.declared.failure.FailureKind.{FailureKind}
use Rattle.dp_test_runs.specs.declared.failure.FailureKind.TheVariants as kinds
use Rattle.dp_test_runs.specs.declared.named_text.NamedFileText.{NamedFileText}

-- ---- what a line does

-- the course after what a line does
abbrev pub after_act : List NamedFileText → Course → Act → Course
after_act files course (Turns turns) = after_turns course turns
after_act files course (Reload name) = after_reload course (number_named files name) (text_named files name)
after_act files course (Expect expectation) = course

-- ---- failures

abbrev pub fails_at : ℕ → FailureKind → Failure
fails_at line kind = record { line = line; kind = kind }

-- whether a claim is that the event line before was refused
abbrev pub claims_refusal : LineClaim → Bool
claims_refusal (State channel text) = false
claims_refusal (Ran channel call) = false
claims_refusal (Passed channel call) = false
claims_refusal (At channel place) = false
claims_refusal (Value channel name value) = false
claims_refusal (Rings agents) = false
claims_refusal (Waiting queue count) = false
claims_refusal (Refused refusal) = true

-- whether a line expects that the event line before was refused
abbrev pub expects_refusal : Act → Bool
expects_refusal (Turns turns) = false
expects_refusal (Reload name) = false
expects_refusal (Expect expectation) = claims_refusal expectation.claim && not expectation.is_negated

-- whether the first of some lines does
abbrev pub first_expects_refusal : List TestLine → Bool
first_expects_refusal [] = false
first_expects_refusal (line ∷ lines) = expects_refusal line.act

-- the failure of an event line that was refused, if the next line does not expect it
abbrev pub refused_failure : ℕ → Option Refusal → Bool → Option Failure
refused_failure line None is_expected = None
refused_failure line (Some refusal) is_expected = if is_expected then None else Some (fails_at line (kinds.Refused refusal))

-- the failure of an event line, given the course after it and the lines after it
abbrev pub event_failure : Course → ℕ → List TestLine → Option Failure
event_failure course line after =
    if course.is_endless then Some (fails_at line kinds.Endless)
    else refused_failure line course.refusal (first_expects_refusal after)

-- the failure of an expectation that does not come true
abbrev pub expect_failure : Course → ℕ → Expectation → Option Failure
expect_failure course line expectation = if is_met course expectation then None else Some (fails_at line kinds.Unmet)

-- the failure of a line, given the course after it and the lines after it
abbrev pub failure_of : Course → ℕ → List TestLine → Act → Option Failure
failure_of course line after (Turns turns) = event_failure course line after
failure_of course line after (Reload name) = event_failure course line after
failure_of course line after (Expect expectation) = expect_failure course line expectation

-- ---- lines

-- where lines end: the course then, and the failure of the last line that ran, if it failed
pub record Ended : Type 0 where
  pub course : Course
  pub failure : Option Failure

abbrev pub test_end : Course → Option Failure → Ended
test_end course failure = record { course = course; failure = failure }

-- what follows goes on only if nothing has failed
abbrev pub go_on : Course → Option Failure → (Course → Ended) → Ended
go_on course None later = later course
go_on course (Some failure) later = test_end course (Some failure)

-- where lines end that run one after another until one fails
abbrev pub ended_after : List NamedFileText → Course → List TestLine → Ended
ended_after files course [] = test_end course None
ended_after files course (line ∷ lines) =
    go_on (after_act files course line.act) (failure_of (after_act files course line.act) line.line lines line.act)
    (λ next. ended_after files next lines)

-- ---- the end of a test

-- the channel that a claim is about
abbrev pub claimed_channel : LineClaim → Option ℕ
claimed_channel (State channel text) = Some channel
claimed_channel (Ran channel call) = Some channel
claimed_channel (Passed channel call) = Some channel
claimed_channel (At channel place) = Some channel
claimed_channel (Value channel name value) = channel
claimed_channel (Rings agents) = None
claimed_channel (Waiting queue count) = None
claimed_channel (Refused refusal) = None

-- whether a claim is about a channel
abbrev pub is_about : ℕ → LineClaim → Bool
is_about channel claim = option_map_or (λ number. number == channel) (claimed_channel claim) false

-- whether something was expected of a channel since the last event line, given whether that was so before a line
abbrev pub expected_by : ℕ → Bool → Act → Bool
expected_by channel expected (Turns turns) = false
expected_by channel expected (Reload name) = false
expected_by channel expected (Expect expectation) = expected || is_about channel expectation.claim

-- whether lines expect something of a channel after their last event line
abbrev pub is_expected : List TestLine → ℕ → Bool
is_expected lines channel = fold (λ expected line. expected_by channel expected line.act) false lines

-- whether something is unknown ahead of a channel, and these lines expect nothing of it after their last event line
abbrev pub is_left : World → List TestLine → ℕ → Bool
is_left w lines channel = is_some (unknown_at w channel) && not (is_expected lines channel)

-- the number of the last line of a test
abbrev pub last_line : Test → ℕ
last_line test = fold (λ number line. line.line) test.line test.lines

-- the failure of a test that leaves this channel so
abbrev pub left_at : ℕ → ℕ → Failure
left_at line channel = fails_at line (kinds.LeftUnknown channel)

-- the failure of a test at its end: the first channel that it leaves so
abbrev pub failure_at_end : World → Test → Option Failure
failure_at_end w test = option_map (left_at (last_line test)) (find (is_left w test.lines) (numbers_of w))

-- the end of a test after its setup
abbrev pub ended_test : List NamedFileText → Test → Course → Ended
ended_test files test course =
    go_on (ended_after files course test.lines).course (ended_after files course test.lines).failure
    (λ last. test_end last (failure_at_end last.machine test))

-- the course after a line of the head that states a fact, if there is one
abbrev pub after_fact : Course → Option HeadLine → Course
after_fact course None = course
after_fact course (Some head) = after_turns course head.turns

-- the course before the setup: what the head states is so
abbrev pub after_head : Course → TestFile → Course
after_head course file = after_fact (after_fact course file.clock) file.assume

-- the end of a test of a file that begins with this course
abbrev pub ended_in : List NamedFileText → TestFile → Test → Course → Ended
ended_in files file test course =
    go_on (ended_after files (after_head course file) file.setup).course (ended_after files (after_head course file) file.setup).failure
    (ended_test files test)

-- the course at the beginning of a test
abbrev pub beginning : World → Course
beginning w = record { machine = w; ran = []; refusal = None; offered = None; is_endless = false; changes = [] }
