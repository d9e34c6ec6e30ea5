-- The output and result of a check of a dialplan, of queues or of both, with the files that they include.
use Rattle.std.specs.Prelude.{◌≡◌, ℕ, Bool, true, false, ◌==◌, List, [], Option, Some, None, Result, Ok, Err, if◌then◌else◌}
use Rattle.std.specs.Io.KnownBytes.{Appends}
use Rattle.dp_conf.specs.Fronts.{AppendsFront}
use Rattle.dp_files.specs.FolderFiles.{MayTell, ReadsFolder}
use Rattle.dp_files.specs.Sources.{Telling}
use Rattle.dp_files.specs.declared.reading.ReadingFault.{ReadingFault}
use Rattle.dp_files.specs.declared.reading.ReadingFault.TheVariants.{NotFound, TooLong as too_long, NoMemory as no_memory}
use Rattle.dp_commands.specs.declared.fault.Code.TheVariants.{ReadFailed, TooLong, WriteFailed}
use Rattle.dp_commands.specs.declared.fault.PbxFault.{PbxFault}
use Rattle.dp_commands.specs.declared.fault.PbxFault.TheVariants.{Coded, NoMemory}
use Rattle.dp_notices.specs.Checks.{both_check_text, check_text, faults_of, faults_of_both, faults_of_queues, queues_check_text}
use Rattle.dp_notices.specs.PlanFiles.{PlanFilesOf, plan_of}
use Rattle.dp_notices.specs.QueueFiles.{QueueFilesOf, queues_of}
use Rattle.dp_program.specs.Faulted.{PlaceOf, StandsIn, in_none, unread_place, without_place}
use Rattle.dp_program.specs.Files.{ByteSource}
use Rattle.dp_program.specs.JsonChecks.{both_lines, plan_lines, queues_lines}
use Rattle.dp_program.specs.declared.fault_places.Faulted.{Faulted}
use Rattle.dp_wide.specs.declared.times.Moment.{Moment}

-- the text is the bytes of a file, if these are known
abbrev pub AreBytes : Option (List ℕ) → List ℕ → Type 0
AreBytes (Some bytes) text = text ≡ bytes
AreBytes None text = Unit {0}

-- what a file may contain: its bytes, or nothing if a read of it may fail
abbrev pub MayHold : ByteSource → Option (List ℕ) → Type 0
MayHold source (Some text) = AreBytes source.bytes text
MayHold source None = source.fails ≡ true

-- what may be reported of the files of a system below the folder of a first one; no contract knows what a folder contains
abbrev pub MayTellOf : (List ℕ → ByteSource) → List ℕ → Telling → Type 0
MayTellOf sources first = MayTell (λ path text. MayHold (sources path) text) (λ _ _. Unit {0}) first

-- why nothing was read, as a fault of the program
abbrev pub reading_fault : ReadingFault → PbxFault
reading_fault NotFound = Coded ReadFailed None
reading_fault too_long = Coded TooLong None
reading_fault no_memory = NoMemory

-- a report, and the status
pub record CheckOf : Type 0 where
  pub text : List ℕ
  pub status : ℕ

-- the status of a dialplan with this number of faults
abbrev pub check_status : ℕ → ℕ
check_status faults = if faults == 0 then 0 else 1

-- the text of the report on a dialplan that was read, given whether it is JSON
abbrev pub plan_text : Bool → PlanFilesOf → List ℕ
plan_text true plan = plan_lines plan
plan_text false plan = check_text plan

-- the report on it
abbrev pub check_of : Bool → PlanFilesOf → CheckOf
check_of is_json plan = record { text = plan_text is_json plan; status = check_status (faults_of plan) }

-- the same, or why nothing was read
abbrev pub check_or_fault : Bool → Result PlanFilesOf ReadingFault → Result CheckOf PbxFault
check_or_fault is_json (Ok plan) = Ok (check_of is_json plan)
check_or_fault is_json (Err fault) = Err (reading_fault fault)

-- the output and result of a check, given its report or the fault in its place: the whole report or, if a write fails, a prefix of it
abbrev pub WritesCheck : Option (List ℕ) → Option (List ℕ) → Result CheckOf PbxFault → Result ℕ PbxFault → Type 0
WritesCheck old new (Ok check) (Ok status) = Appends old new check.text × (status ≡ check.status)
WritesCheck old new (Ok check) (Err (Coded code line)) = AppendsFront old new check.text × (code ≡ WriteFailed) × (line ≡ None)
WritesCheck old new (Ok check) (Err NoMemory) = Appends old new []
WritesCheck old new (Err fault) (Ok status) = ⊥
WritesCheck old new (Err fault) (Err (Coded code line)) = Appends old new [] × (fault ≡ Coded code line)
WritesCheck old new (Err fault) (Err NoMemory) = Appends old new []

-- the place of the fault of a check: the first file, if that was not read
abbrev pub place_of_plan : List ℕ → Result PlanFilesOf ReadingFault → PbxFault → PlaceOf
place_of_plan path (Ok plan) fault = in_none
place_of_plan path (Err unread) fault = unread_place path fault

-- the output and result of a check of the dialplan of a file and of those that it includes, and the place of its fault, given whether it is
-- JSON, and the moment by which includes with times are read, if there is one: for all files that are as they were read
abbrev pub ChecksIncluding : Bool → Option Moment → List ℕ → (List ℕ → ByteSource) → Option (List ℕ) → Option (List ℕ) → Result ℕ Faulted → Type 0
ChecksIncluding is_json moment path sources old new answered =
    ReadsFolder (MayTellOf sources path) (λ has.
    WritesCheck old new (check_or_fault is_json (plan_of moment has path)) (without_place answered)
    × StandsIn (place_of_plan path (plan_of moment has path)) answered)

-- the text of the report on queues that were read, given whether it is JSON
abbrev pub queues_text : Bool → QueueFilesOf → List ℕ
queues_text true queues = queues_lines queues
queues_text false queues = queues_check_text queues

-- the report on them
abbrev pub queues_check_of : Bool → QueueFilesOf → CheckOf
queues_check_of is_json queues = record { text = queues_text is_json queues; status = check_status (faults_of_queues queues) }

-- the same, or why nothing was read
abbrev pub queues_checked : Bool → Result QueueFilesOf ReadingFault → Result CheckOf PbxFault
queues_checked is_json (Ok queues) = Ok (queues_check_of is_json queues)
queues_checked is_json (Err fault) = Err (reading_fault fault)

-- the place of the fault of a check of queues: the first file, if that was not read
abbrev pub place_of_queues : List ℕ → Result QueueFilesOf ReadingFault → PbxFault → PlaceOf
place_of_queues path (Ok queues) fault = in_none
place_of_queues path (Err unread) fault = unread_place path fault

-- the output and result of a check of the queues of a file and of those that it includes, and the place of its fault, given whether it is
-- JSON: for all files that are as they were read
abbrev pub ChecksQueuesIncluding : Bool → List ℕ → (List ℕ → ByteSource) → Option (List ℕ) → Option (List ℕ) → Result ℕ Faulted → Type 0
ChecksQueuesIncluding is_json path sources old new answered =
    ReadsFolder (MayTellOf sources path) (λ has.
    WritesCheck old new (queues_checked is_json (queues_of has path)) (without_place answered)
    × StandsIn (place_of_queues path (queues_of has path)) answered)

-- the text of the report on a dialplan and queues that were read, given whether it is JSON
abbrev pub both_text : Bool → PlanFilesOf → QueueFilesOf → List ℕ
both_text true plan queues = both_lines plan queues
both_text false plan queues = both_check_text plan queues

-- the report on them
abbrev pub both_check_of : Bool → PlanFilesOf → QueueFilesOf → CheckOf
both_check_of is_json plan queues = record { text = both_text is_json plan queues; status = check_status (faults_of_both plan queues) }

-- the same, or why one of them was not read: the dialplan comes first
abbrev pub both_checked : Bool → Result PlanFilesOf ReadingFault → Result QueueFilesOf ReadingFault → Result CheckOf PbxFault
both_checked is_json (Ok plan) (Ok queues) = Ok (both_check_of is_json plan queues)
both_checked is_json (Ok plan) (Err fault) = Err (reading_fault fault)
both_checked is_json (Err fault) queues = Err (reading_fault fault)

-- the place of the fault of a check of both: the first file of the dialplan or of the queues, if that was not read
abbrev pub place_of_both : List ℕ → List ℕ → Result PlanFilesOf ReadingFault → Result QueueFilesOf ReadingFault → PbxFault → PlaceOf
place_of_both path queues_path (Ok plan) (Ok queues) fault = in_none
place_of_both path queues_path (Ok plan) (Err unread) fault = unread_place queues_path fault
place_of_both path queues_path (Err unread) queues fault = unread_place path fault

-- the output and result of a check of the dialplan of a file and the queues of another, and of the files that they include, given whether it
-- is JSON: for all files that are as they were read
abbrev pub ChecksBothIncluding : Bool → Option Moment → List ℕ → List ℕ → (List ℕ → ByteSource) → Option (List ℕ) → Option (List ℕ) → Result ℕ Faulted → Type 0
ChecksBothIncluding is_json moment path queues_path sources old new answered =
    ReadsFolder (MayTellOf sources path) (λ has. ReadsFolder (MayTellOf sources queues_path) (λ held.
    WritesCheck old new (both_checked is_json (plan_of moment has path) (queues_of held queues_path)) (without_place answered)
    × StandsIn (place_of_both path queues_path (plan_of moment has path) (queues_of held queues_path)) answered))
