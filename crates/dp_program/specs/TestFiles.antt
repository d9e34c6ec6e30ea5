-- What `pbx test` reads for a test file: the dialplan and the queues that its head names, and the dialplans that its `reload` lines name.
use Rattle.std.specs.Prelude.{◌≡◌, ℕ, List, [], ◌∷◌, ◌++◌, Option, Some, None, Result, Ok, Err, MatchBool, codes, decimal}
use Rattle.std.specs.List.{flat_map}
use Rattle.std.specs.Option.{option_and_then, option_map, option_map_or}
use Rattle.std.specs.Str.{is_utf8}
use Rattle.dp_commands.specs.Codes.{code_text}
use Rattle.dp_commands.specs.LinePlaces.{places_of}
use Rattle.dp_commands.specs.declared.fault.Code.{Code}
use Rattle.dp_commands.specs.declared.fault.Code.TheVariants.{Line, Name, Plan, QueueLine, Queue, ReadFailed, TooLong, WriteFailed, Settle, BadScript, BadBreak}
use Rattle.dp_commands.specs.declared.fault.PbxFault.{PbxFault}
use Rattle.dp_commands.specs.declared.fault.PbxFault.TheVariants.{Coded, NoMemory}
use Rattle.dp_files.specs.FolderFiles.{ReadsFolder, path_of}
use Rattle.dp_files.specs.declared.reading.ReadingFault.{ReadingFault}
use Rattle.dp_notices.specs.PlanFiles.{plan_of}
use Rattle.dp_notices.specs.QueueFiles.{QueueFilesOf, queues_of}
use Rattle.dp_program.specs.Dialplans.{DialplanRead, PlanTextOf, dialplan_read, faulty, loads, places_in, text_now}
use Rattle.dp_program.specs.Files.{ByteSource}
use Rattle.dp_program.specs.Including.{MayTellOf, reading_fault}
use Rattle.dp_program.specs.QueueTexts.{QueuesRead, given, queues_or_notices, unread}
use Rattle.dp_program.specs.declared.dialplans.PlanUse.TheVariants.{LookUp}
use Rattle.dp_program.specs.ScriptAssumptions.{test_assumptions}
use Rattle.dp_program.specs.declared.test_inputs.FileMention.{FileMention}
use Rattle.dp_program.specs.declared.test_inputs.PlanReading.{PlanReading}
use Rattle.dp_program.specs.declared.test_inputs.ReadInputs.{ReadInputs}
use Rattle.dp_program.specs.declared.test_inputs.ReadInputs.TheVariants.{Ready, Lacking}
use Rattle.dp_program.specs.declared.test_inputs.Reloads.{Reloads}
use Rattle.dp_program.specs.declared.test_inputs.TestInputs.{TestInputs}
use Rattle.dp_test_runs.specs.declared.named_text.NamedFileText.{NamedFileText}
use Rattle.dp_test_runs.specs.declared.points.TestedFile.{TestedFile}
use Rattle.dp_tests.specs.Faults.{kind_name}
use Rattle.dp_tests.specs.declared.fault.TestFault.{TestFault}
use Rattle.dp_tests.specs.declared.file.Act.{Act}
use Rattle.dp_tests.specs.declared.file.Act.TheVariants.{Turns, Reload, Expect}
use Rattle.dp_tests.specs.declared.file.HeadLine.{HeadLine}
use Rattle.dp_tests.specs.declared.file.Test.{Test}
use Rattle.dp_tests.specs.declared.file.TestFile.{TestFile}
use Rattle.dp_tests.specs.declared.file.TestLine.{TestLine}
use Rattle.dp_wide.specs.Times.{moment_of}
use Rattle.dp_wide.specs.declared.times.Moment.{Moment}

-- ---- lines about faults

-- the place of a line, `FILE:LINE: `
abbrev pub place_text : List ℕ → ℕ → List ℕ
place_text path line = path ++ codes ":" ++ decimal line ++ codes ": "

-- the line about a fault of a test file
abbrev pub fault_line : List ℕ → TestFault → List ℕ
fault_line path fault = place_text path fault.line ++ (codes "fault " ++ kind_name fault.kind ++ codes "\n")

-- the lines about all faults of a test file
abbrev pub fault_lines : List ℕ → List TestFault → List ℕ
fault_lines path faults = flat_map (fault_line path) faults

-- a file that a line of a test file names
pub record NamedOf : Type 0 where
  pub line : ℕ
  pub name : List ℕ

abbrev pub named_by : ℕ → List ℕ → NamedOf
named_by line name = record { line = line; name = name }

abbrev pub named_now : FileMention → NamedOf
named_now named = named_by named.line named.name.now

-- the file that a line of the head names
abbrev pub named_in : HeadLine → NamedOf
named_in head = named_by head.line head.text

-- the path of such a file, which is beside the test file
abbrev pub path_to : List ℕ → NamedOf → List ℕ
path_to path named = path_of path named.name

-- the line about such a file if it was not read
abbrev pub unread_line : List ℕ → NamedOf → Code → List ℕ
unread_line path named code = place_text path named.line ++ (code_text code ++ codes " " ++ named.name ++ codes "\n")

-- the same, given the fault
abbrev pub unread_text : List ℕ → NamedOf → PbxFault → List ℕ
unread_text path named (Coded code line) = unread_line path named code
unread_text path named NoMemory = []

-- ---- the files that a test file names

-- the moment of the `clock` line, by which includes with times are read
abbrev pub clock_of : Option HeadLine → Option Moment
clock_of clock = option_and_then (λ head. moment_of head.text) clock

-- how the dialplans are read: by this moment, and by what the head assumes of lines that are left out
abbrev pub reading_of : TestFile → PlanReading
reading_of file = record { clock = clock_of file.clock; assumed = test_assumptions file }

-- the dialplan, or the lines about what is wrong with it
abbrev pub plan_or_lines : List ℕ → NamedOf → Result DialplanRead PbxFault → DialplanRead
plan_or_lines path named (Ok read) = read
plan_or_lines path named (Err fault) = faulty (unread_text path named fault)

-- the dialplan at a path may be read so: for all files that are as they were read
abbrev pub IsPlanAt : (List ℕ → ByteSource) → PlanReading → List ℕ → NamedOf → List ℕ → DialplanRead → Type 0
IsPlanAt files reading path named at read =
    ReadsFolder (MayTellOf files at) (λ has. read ≡ plan_or_lines path named (dialplan_read (LookUp reading.assumed) None (plan_of reading.clock has at)))

-- the same for the dialplan that a line names; a path that is not UTF-8 is not read
abbrev pub IsPlanRead : (List ℕ → ByteSource) → PlanReading → List ℕ → NamedOf → DialplanRead → Type 0
IsPlanRead files reading path named read =
    MatchBool (is_utf8 (path_to path named)) (IsPlanAt files reading path named (path_to path named) read)
    (read ≡ faulty (unread_line path named ReadFailed))

-- the queues that a line names, or the lines about what is wrong with them
abbrev pub queues_or_lines : List ℕ → NamedOf → Result QueueFilesOf ReadingFault → QueuesRead
queues_or_lines path named (Ok queues) = queues_or_notices queues
queues_or_lines path named (Err fault) = unread (unread_text path named (reading_fault fault))

-- the queues at a path may be read so: for all files that are as they were read
abbrev pub QueuesComeFrom : (List ℕ → ByteSource) → List ℕ → NamedOf → List ℕ → QueuesRead → Type 0
QueuesComeFrom files path named at read =
    ReadsFolder (MayTellOf files at) (λ has. read ≡ queues_or_lines path named (queues_of has at))

-- the same for the queues that a line names; a path that is not UTF-8 is not read
abbrev pub AreQueuesAt : (List ℕ → ByteSource) → List ℕ → NamedOf → QueuesRead → Type 0
AreQueuesAt files path named read =
    MatchBool (is_utf8 (path_to path named)) (QueuesComeFrom files path named (path_to path named) read)
    (read ≡ unread (unread_line path named ReadFailed))

-- the same, if a line of the head names queues; without it there are none
abbrev pub AreQueuesRead : (List ℕ → ByteSource) → List ℕ → Option HeadLine → QueuesRead → Type 0
AreQueuesRead files path None read = read ≡ given None
AreQueuesRead files path (Some head) read = AreQueuesAt files path (named_in head) read

-- the file that a `reload` line names
abbrev pub reload_by : ℕ → Act → List NamedOf
reload_by line (Turns turns) = []
reload_by line (Reload name) = named_by line name ∷ []
reload_by line (Expect expectation) = []

abbrev pub reload_in : TestLine → List NamedOf
reload_in line = reload_by line.line line.act

-- the files that the `reload` lines of a test name
abbrev pub reloads_in : Test → List NamedOf
reloads_in test = flat_map reload_in test.lines

-- the same for the setup and all tests of a file
abbrev pub reloads_of : TestFile → List NamedOf
reloads_of file = flat_map reload_in file.setup ++ flat_map reloads_in file.tests

-- the texts of the dialplans that were read, with the names of their files, and the lines about what is wrong with the others
pub record ReloadsOf : Type 0 where
  pub texts : List NamedFileText
  pub lines : List ℕ

abbrev pub no_reloads : ReloadsOf
no_reloads = record { texts = []; lines = [] }

-- the same with the text of one more dialplan
abbrev pub with_plan : List ℕ → ReloadsOf → PlanTextOf → ReloadsOf
with_plan name reloads plan =
    record { texts = reloads.texts ++ record { name = name; text = plan.text } ∷ []; lines = reloads.lines }

-- the same with the result of reading one
abbrev pub with_reload : NamedOf → ReloadsOf → DialplanRead → ReloadsOf
with_reload named reloads (loads plan) = with_plan named.name reloads plan
with_reload named reloads (faulty lines) = record { texts = reloads.texts; lines = reloads.lines ++ lines }

-- the dialplans that some lines name may be read so, one after another
abbrev pub AreReloads : (List ℕ → ByteSource) → PlanReading → List ℕ → List NamedOf → ReloadsOf → ReloadsOf → Type 0
AreReloads files reading path [] before after = after ≡ before
AreReloads files reading path (named ∷ more) before after =
    (read : DialplanRead) × IsPlanRead files reading path named read × AreReloads files reading path more (with_reload named before read) after

-- the texts that the tests of a file run on
pub record InputsOf : Type 0 where
  pub plan : PlanTextOf
  pub queues : Option (List ℕ)
  pub reloaded : List NamedFileText

-- these texts, or the lines about everything that is wrong with them
pub data InputsRead : Type 0 where
  ready : InputsOf → InputsRead
  lacking : List ℕ → InputsRead

-- the lines about everything that is wrong
abbrev pub plan_lines : DialplanRead → List ℕ
plan_lines (loads plan) = []
plan_lines (faulty lines) = lines

abbrev pub queues_lines : QueuesRead → List ℕ
queues_lines (given queues) = []
queues_lines (unread line) = line

abbrev pub wrong_lines : DialplanRead → QueuesRead → ReloadsOf → List ℕ
wrong_lines plan queues reloads = plan_lines plan ++ queues_lines queues ++ reloads.lines

-- the texts, given what was read, if nothing is wrong
abbrev pub inputs_by : List ℕ → DialplanRead → QueuesRead → ReloadsOf → InputsRead
inputs_by [] (loads plan) (given queues) reloads = ready (record { plan = plan; queues = queues; reloaded = reloads.texts })
inputs_by lines plan queues reloads = lacking lines

-- the result of a call
abbrev pub reloads_now : Reloads → ReloadsOf
reloads_now reloads = record { texts = reloads.texts; lines = reloads.lines.items }

abbrev pub inputs_of : TestInputs → InputsOf
inputs_of inputs =
    record { plan = text_now inputs.plan; queues = option_map (λ text. text.items) inputs.queues; reloaded = inputs.reloaded }

abbrev pub inputs_now : ReadInputs → InputsRead
inputs_now (Ready inputs) = ready (inputs_of inputs)
inputs_now (Lacking lines) = lacking lines.items

-- the files that a test file names may be read so
pub record AreInputs (files : List ℕ → ByteSource) (path : List ℕ) (file : TestFile) (read : InputsRead) : Type 0 where
  pub plan : DialplanRead
  pub queues : QueuesRead
  pub reloads : ReloadsOf
  pub plan_read : IsPlanRead files (reading_of file) path (named_in file.dialplan) plan
  pub queues_read : AreQueuesRead files path file.queues queues
  pub reloads_read : AreReloads files (reading_of file) path (reloads_of file) no_reloads reloads
  pub joined : read ≡ inputs_by (wrong_lines plan queues reloads) plan queues reloads

-- ---- the texts that the tests of a file run on

-- a test file with this path and text, and the texts that its tests run on
pub record IsTested (tested : TestedFile) (path text : List ℕ) (file : TestFile) (inputs : InputsOf) : Type 0 where
  pub path_is : tested.path.now ≡ path
  pub text_is : tested.text.now ≡ text
  pub file_is : tested.file.now ≡ file
  pub plan_is : tested.texts.plan.now ≡ inputs.plan.text
  pub queues_are : option_map (λ text. text.now) tested.texts.queues ≡ inputs.queues
  pub reloaded_are : tested.texts.reloaded.now ≡ inputs.reloaded
  pub places_are : places_of tested.places ≡ places_in inputs.plan

-- the line of the head that names the queues, or else the dialplan
abbrev pub queues_head : TestFile → HeadLine
queues_head file = option_map_or (λ head. head) file.queues file.dialplan

-- the line of the head whose file has a fault of some code
abbrev pub head_of_fault : TestFile → Code → HeadLine
head_of_fault file (Line kind) = file.dialplan
head_of_fault file (Name fault) = file.dialplan
head_of_fault file (Plan kind) = file.dialplan
head_of_fault file (QueueLine kind) = queues_head file
head_of_fault file (Queue kind) = queues_head file
head_of_fault file ReadFailed = file.dialplan
head_of_fault file TooLong = file.dialplan
head_of_fault file WriteFailed = file.dialplan
head_of_fault file (Settle fault) = file.dialplan
head_of_fault file BadScript = file.dialplan
head_of_fault file BadBreak = file.dialplan

-- the place of a fault in the file that a line of the head names; a fault without a line is at the line of the head
abbrev pub place_by : List ℕ → HeadLine → Option ℕ → List ℕ
place_by path head (Some line) = place_text (path_of path head.text) line
place_by path head None = place_text path head.line

-- the line about a fault of the texts that tests run on
abbrev pub refused_line : List ℕ → TestFile → Code → Option ℕ → List ℕ
refused_line path file code line = place_by path (head_of_fault file code) line ++ (code_text code ++ codes "\n")

-- the line about a fault of these texts; running out of memory has no line
abbrev pub fault_of_texts : List ℕ → TestFile → PbxFault → List ℕ
fault_of_texts path file (Coded code line) = refused_line path file code line
fault_of_texts path file NoMemory = []
