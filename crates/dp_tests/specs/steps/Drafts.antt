-- Steps of the code: what the lines of a test file have made so far. The result of all lines is `file_in` of Files.
use Rattle.std.specs.Prelude.{ℕ, Bool, List, [], ◌∷◌, ◌++◌, Option, Some, None, is_some, Result, Ok, Err, if◌then◌else◌}
use Rattle.std.specs.Option.{option_or, option_to_list}
use Rattle.dp_tests.specs.Files.{acts_at, fault_at, fault_by, test_by}
use Rattle.dp_tests.specs.Meanings.{is_fact}
use Rattle.dp_tests.specs.declared.draft.TestDraft.{TestDraft}
use Rattle.dp_tests.specs.declared.expectation.Expectation.{Expectation}
use Rattle.dp_tests.specs.declared.fault.TestFault.{TestFault}
use Rattle.dp_tests.specs.declared.fault.TestFaultKind.{TestFaultKind}
use Rattle.dp_tests.specs.declared.fault.TestFaultKind.TheVariants.{NoDialplan}
use Rattle.dp_tests.specs.declared.file.Act.{Act}
use Rattle.dp_tests.specs.declared.file.Act.TheVariants as acts
use Rattle.dp_tests.specs.declared.file.HeadLine.{HeadLine}
use Rattle.dp_tests.specs.declared.file.Test.{Test}
use Rattle.dp_tests.specs.declared.file.TestFile.{TestFile}
use Rattle.dp_tests.specs.declared.file.TestLine.{TestLine}
use Rattle.dp_tests.specs.declared.meaning.HeadWord.{HeadWord}
use Rattle.dp_tests.specs.declared.meaning.HeadWord.TheVariants.{Dialplan, Queues, Clock, Assume}
use Rattle.dp_tests.specs.declared.meaning.LineMeaning.{LineMeaning}
use Rattle.dp_tests.specs.declared.meaning.LineMeaning.TheVariants.{Nothing, Head, Begin, Event, Expect, Faulty}
use Rattle.dp_tests.specs.declared.meaning.MeantLine.{MeantLine}

-- before the first line
abbrev pub nothing_drafted : TestDraft
nothing_drafted = record { dialplan = None; queues = None; clock = None; assume = None; setup = []; tests = []; current = None }

-- with the open test at its end
abbrev pub with_test_closed : TestDraft → TestDraft
with_test_closed draft = record draft { tests = draft.tests ++ option_to_list draft.current; current = None }

-- with a test that begins
abbrev pub with_new_test : TestDraft → ℕ → List ℕ → TestDraft
with_new_test draft line name = record draft { tests = draft.tests ++ option_to_list draft.current; current = Some (test_by name line []) }

-- with one more line in this test, which is open
abbrev pub in_test : TestDraft → Test → TestLine → TestDraft
in_test draft test line = record draft { current = Some (test_by test.name test.line (test.lines ++ line ∷ [])) }

-- with one more line in the open test
abbrev pub with_line : TestDraft → Option Test → TestLine → TestDraft
with_line draft None line = draft
with_line draft (Some test) line = in_test draft test line

-- with one more event line in the open test or else in the setup
abbrev pub with_event : TestDraft → Option Test → TestLine → TestDraft
with_event draft None line = record draft { setup = draft.setup ++ line ∷ [] }
with_event draft (Some test) line = in_test draft test line

-- with one more line of the head, unless there is one with the word
abbrev pub with_head : TestDraft → HeadWord → HeadLine → TestDraft
with_head draft Dialplan line = record draft { dialplan = option_or draft.dialplan (Some line) }
with_head draft Queues line = record draft { queues = option_or draft.queues (Some line) }
with_head draft Clock line = record draft { clock = option_or draft.clock (Some line) }
with_head draft Assume line = record draft { assume = option_or draft.assume (Some line) }

-- with a line of the head that is in a test
abbrev pub with_fact : TestDraft → HeadWord → HeadLine → TestDraft
with_fact draft word line = if is_fact word then with_line draft draft.current (acts_at line.line (acts.Turns line.turns)) else draft

-- with a line of the head
abbrev pub with_head_line : TestDraft → Option Test → HeadWord → HeadLine → TestDraft
with_head_line draft None word line = with_head draft word line
with_head_line draft (Some test) word line = with_fact draft word line

-- what an `expect` line does
abbrev pub expects : Expectation → Act
expects expectation = acts.Expect expectation

-- after one more line
abbrev pub drafted_by : TestDraft → ℕ → LineMeaning → TestDraft
drafted_by draft line Nothing = draft
drafted_by draft line (Head word text turns) =
    with_head_line draft draft.current word (record { line = line; text = text; turns = turns })
drafted_by draft line (Begin name) = with_new_test draft line name
drafted_by draft line (Event act) = with_event draft draft.current (acts_at line act)
drafted_by draft line (Expect expectation) = with_line draft draft.current (acts_at line (expects expectation))
drafted_by draft line (Faulty kind) = draft

abbrev pub drafted_after : TestDraft → MeantLine → TestDraft
drafted_after draft line = drafted_by draft line.line line.meaning

-- whether the head has a line with a word
abbrev pub has_head : TestDraft → HeadWord → Bool
has_head draft Dialplan = is_some draft.dialplan
has_head draft Queues = is_some draft.queues
has_head draft Clock = is_some draft.clock
has_head draft Assume = is_some draft.assume

-- what is wrong with the next line
abbrev pub fault_with : TestDraft → LineMeaning → Option TestFaultKind
fault_with draft meaning = fault_by (is_some draft.current) (has_head draft) meaning

-- the faults of the next lines
abbrev pub faults_from : TestDraft → List MeantLine → List TestFault
faults_from draft [] = []
faults_from draft (line ∷ lines) = fault_at line.line (fault_with draft line.meaning) ++ faults_from (drafted_after draft line) lines

-- the faults of all lines, given whether the head names a dialplan and the faults that each line has
abbrev pub with_dialplan_fault : Bool → List TestFault → List TestFault
with_dialplan_fault has_dialplan faults =
    if has_dialplan then faults else (record { line = 1; kind = NoDialplan }) ∷ faults

-- the file of the lines without the open test, given its dialplan
abbrev pub closed_file : TestDraft → Option HeadLine → Option TestFile
closed_file draft None = None
closed_file draft (Some dialplan) =
    Some (record {
      dialplan = dialplan;
      queues = draft.queues;
      clock = draft.clock;
      assume = draft.assume;
      setup = draft.setup;
      tests = draft.tests;
    })

-- the file of the lines
abbrev pub drafted_file : TestDraft → Option TestFile
drafted_file draft = closed_file (with_test_closed draft) draft.dialplan

-- the file, if it has no faults
abbrev pub file_or_faults : Option TestFile → List TestFault → Result TestFile (List TestFault)
file_or_faults None faults = Err faults
file_or_faults (Some file) [] = Ok file
file_or_faults (Some file) (fault ∷ faults) = Err (fault ∷ faults)

-- the file of all lines, or all their faults, given those that each line has
abbrev pub draft_result : TestDraft → List TestFault → Result TestFile (List TestFault)
draft_result draft faults = file_or_faults (drafted_file draft) (with_dialplan_fault (has_head draft Dialplan) faults)
