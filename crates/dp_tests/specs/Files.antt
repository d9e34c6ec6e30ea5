-- The parts of a test file, given its lines: the head and the setup come before its first test, and each test is a line that begins it with
-- the lines up to the next such line.
use Rattle.std.specs.Prelude.{ℕ, ◌+◌, Bool, true, false, List, [], ◌∷◌, ◌++◌, Option, Some, None, is_some, Result, Ok, Err, if◌then◌else◌}
use Rattle.std.specs.List.{flat_map, list_any}
use Rattle.std.specs.Option.{option_or}
use Rattle.dp_conf.specs.Lines.{parts_of}
use Rattle.dp_tests.specs.Meanings.{is_fact, meant_at}
use Rattle.dp_tests.specs.declared.fault.TestFault.{TestFault}
use Rattle.dp_tests.specs.declared.fault.TestFaultKind.{TestFaultKind}
use Rattle.dp_tests.specs.declared.fault.TestFaultKind.TheVariants.{HeadTwice, HeadLate, NoDialplan, ExpectOutside, NoName}
use Rattle.dp_tests.specs.declared.file.Act.{Act}
use Rattle.dp_tests.specs.declared.file.Act.TheVariants as acts
use Rattle.dp_tests.specs.declared.file.HeadLine.{HeadLine}
use Rattle.dp_tests.specs.declared.file.Test.{Test}
use Rattle.dp_tests.specs.declared.file.TestFile.{TestFile}
use Rattle.dp_tests.specs.declared.file.TestLine.{TestLine}
use Rattle.dp_tests.specs.declared.meaning.HeadWord.{HeadWord}
use Rattle.dp_tests.specs.declared.meaning.HeadWord.TheVariants.{Dialplan, Queues, Clock, Assume}
use Rattle.dp_tests.specs.declared.meaning.LineMeaning.{LineMeaning}
use Rattle.dp_tests.specs.declared.meaning.LineMeaning.TheVariants.{Nothing, Head, Begin, Event, Expect, Faulty}
use Rattle.dp_tests.specs.declared.meaning.MeantLine.{MeantLine}

-- ---- lines

-- the lines with the meaning of each by itself, given the number of lines before them
abbrev pub lines_after : ℕ → List (List ℕ) → List MeantLine
lines_after number [] = []
lines_after number (part ∷ parts) = meant_at (number + 1) part ∷ lines_after (number + 1) parts

-- the lines of a text, counted from 1
abbrev pub lines_of : List ℕ → List MeantLine
lines_of text = lines_after 0 (parts_of text)

-- whether a line begins a test
abbrev pub is_beginning : LineMeaning → Bool
is_beginning Nothing = false
is_beginning (Head word text turns) = false
is_beginning (Begin name) = true
is_beginning (Event act) = false
is_beginning (Expect expectation) = false
is_beginning (Faulty kind) = false

abbrev pub begins_test : MeantLine → Bool
begins_test line = is_beginning line.meaning

-- the lines before the first that begins a test
abbrev pub before_tests : List MeantLine → List MeantLine
before_tests [] = []
before_tests (line ∷ lines) = if begins_test line then [] else line ∷ before_tests lines

-- ---- the head

-- whether two lines of the head begin with the same word
abbrev pub same_head : HeadWord → HeadWord → Bool
same_head Dialplan Dialplan = true
same_head Dialplan Queues = false
same_head Dialplan Clock = false
same_head Dialplan Assume = false
same_head Queues Dialplan = false
same_head Queues Queues = true
same_head Queues Clock = false
same_head Queues Assume = false
same_head Clock Dialplan = false
same_head Clock Queues = false
same_head Clock Clock = true
same_head Clock Assume = false
same_head Assume Dialplan = false
same_head Assume Queues = false
same_head Assume Clock = false
same_head Assume Assume = true

-- a line of the head, if it begins with the word
abbrev pub head_by : HeadWord → HeadWord → HeadLine → Option HeadLine
head_by word other line = if same_head word other then Some line else None

-- the line of the head that a line is, if it begins with a word
abbrev pub head_at : HeadWord → ℕ → LineMeaning → Option HeadLine
head_at word line Nothing = None
head_at word line (Head other text turns) = head_by word other (record { line = line; text = text; turns = turns })
head_at word line (Begin name) = None
head_at word line (Event act) = None
head_at word line (Expect expectation) = None
head_at word line (Faulty kind) = None

-- the first line of the head with a word
abbrev pub first_head : HeadWord → List MeantLine → Option HeadLine
first_head word [] = None
first_head word (line ∷ lines) = option_or (head_at word line.line line.meaning) (first_head word lines)

-- the head's line with a word
abbrev pub head_of : HeadWord → List MeantLine → Option HeadLine
head_of word lines = first_head word (before_tests lines)

-- ---- the setup and the tests

abbrev pub acts_at : ℕ → Act → TestLine
acts_at line act = record { line = line; act = act }

-- what a line does in the setup
abbrev pub setup_at : ℕ → LineMeaning → List TestLine
setup_at line Nothing = []
setup_at line (Head word text turns) = []
setup_at line (Begin name) = []
setup_at line (Event act) = acts_at line act ∷ []
setup_at line (Expect expectation) = []
setup_at line (Faulty kind) = []

abbrev pub setup_line : MeantLine → List TestLine
setup_line line = setup_at line.line line.meaning

-- the setup: the event lines before the first test
abbrev pub setup_of : List MeantLine → List TestLine
setup_of lines = flat_map setup_line (before_tests lines)

-- what a line does in a test: there a line of the head that states a fact is an event line
abbrev pub test_lines_at : ℕ → LineMeaning → List TestLine
test_lines_at line Nothing = []
test_lines_at line (Head word text turns) = if is_fact word then acts_at line (acts.Turns turns) ∷ [] else []
test_lines_at line (Begin name) = []
test_lines_at line (Event act) = acts_at line act ∷ []
test_lines_at line (Expect expectation) = acts_at line (acts.Expect expectation) ∷ []
test_lines_at line (Faulty kind) = []

abbrev pub test_line : MeantLine → List TestLine
test_line line = test_lines_at line.line line.meaning

-- a test with this name, which begins at this line and has these lines
abbrev pub test_by : List ℕ → ℕ → List TestLine → Test
test_by name line lines = record { name = name; line = line; lines = lines }

-- the test that a line begins, given the lines after it
abbrev pub test_at : ℕ → LineMeaning → List TestLine → List Test
test_at line Nothing lines = []
test_at line (Head word text turns) lines = []
test_at line (Begin name) lines = test_by name line lines ∷ []
test_at line (Event act) lines = []
test_at line (Expect expectation) lines = []
test_at line (Faulty kind) lines = []

-- the tests: each has the lines up to the next line that begins one
abbrev pub tests_of : List MeantLine → List Test
tests_of [] = []
tests_of (line ∷ lines) = test_at line.line line.meaning (flat_map test_line (before_tests lines)) ++ tests_of lines

-- ---- faults

-- what is wrong with a line of the head after the first test
abbrev pub late_fault : HeadWord → Option TestFaultKind
late_fault word = if is_fact word then None else Some HeadLate

-- what is wrong with a line of the head, by whether a test has begun and whether the head has a line with the word
abbrev pub head_fault : HeadWord → Bool → Bool → Option TestFaultKind
head_fault word has_test has_head =
    if has_test then late_fault word
    else if has_head then Some HeadTwice
    else None

-- what is wrong with a line that begins a test
abbrev pub name_fault : List ℕ → Option TestFaultKind
name_fault [] = Some NoName
name_fault (byte ∷ name) = None

-- what is wrong with an `expect` line
abbrev pub expect_fault : Bool → Option TestFaultKind
expect_fault has_test = if has_test then None else Some ExpectOutside

-- what is wrong with a line, by whether a test has begun and which words the head has
abbrev pub fault_by : Bool → (HeadWord → Bool) → LineMeaning → Option TestFaultKind
fault_by has_test has_head Nothing = None
fault_by has_test has_head (Head word text turns) = head_fault word has_test (has_head word)
fault_by has_test has_head (Begin name) = name_fault name
fault_by has_test has_head (Event act) = None
fault_by has_test has_head (Expect expectation) = expect_fault has_test
fault_by has_test has_head (Faulty kind) = Some kind

-- what is wrong with a line, by the lines before it
abbrev pub fault_after : List MeantLine → LineMeaning → Option TestFaultKind
fault_after before meaning = fault_by (list_any begins_test before) (λ word. is_some (head_of word before)) meaning

-- the fault of a line
abbrev pub fault_at : ℕ → Option TestFaultKind → List TestFault
fault_at line None = []
fault_at line (Some kind) = (record { line = line; kind = kind }) ∷ []

-- the faults of lines, in order, after other lines
abbrev pub faults_after : List MeantLine → List MeantLine → List TestFault
faults_after before [] = []
faults_after before (line ∷ lines) = fault_at line.line (fault_after before line.meaning) ++ faults_after (before ++ line ∷ []) lines

-- the fault of a head that names no dialplan, which is reported at line 1
abbrev pub dialplan_fault : Option HeadLine → List TestFault
dialplan_fault None = (record { line = 1; kind = NoDialplan }) ∷ []
dialplan_fault (Some dialplan) = []

-- all faults of a file, in the order of its lines
abbrev pub faults_of : List MeantLine → List TestFault
faults_of lines = dialplan_fault (head_of Dialplan lines) ++ faults_after [] lines

-- ---- the file

-- the file of some lines, given its dialplan and its faults
abbrev pub file_by : List MeantLine → Option HeadLine → List TestFault → Result TestFile (List TestFault)
file_by lines None faults = Err faults
file_by lines (Some dialplan) [] =
    Ok (record {
      dialplan = dialplan;
      queues = head_of Queues lines;
      clock = head_of Clock lines;
      assume = head_of Assume lines;
      setup = setup_of lines;
      tests = tests_of lines;
    })
file_by lines (Some dialplan) (fault ∷ faults) = Err (fault ∷ faults)

-- the file that some lines are, or all their faults
unfoldable pub file_in : List MeantLine → Result TestFile (List TestFault)
file_in lines = file_by lines (head_of Dialplan lines) (faults_of lines)

-- the test file that a text is, or all its faults
abbrev pub file_of : List ℕ → Result TestFile (List TestFault)
file_of text = file_in (lines_of text)
