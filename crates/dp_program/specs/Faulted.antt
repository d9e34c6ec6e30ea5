-- The place of a fault: a line of a file, or a file that could not be read.
use Rattle.std.specs.Prelude.{◌≡◌, ℕ, List, [], Option, Some, None, Result, Ok, Err, IfErr, unwrap_or}
use Rattle.dp_commands.specs.Explained.{LineOfFile, line_at}
use Rattle.dp_commands.specs.Faults.{reason_of}
use Rattle.dp_commands.specs.declared.fault.Code.{Code}
use Rattle.dp_commands.specs.declared.fault.Code.TheVariants.{Line, Name, Plan, QueueLine, Queue, ReadFailed, TooLong, WriteFailed, Settle, BadScript, BadBreak}
use Rattle.dp_commands.specs.declared.fault.PbxFault.{PbxFault}
use Rattle.dp_commands.specs.declared.fault.PbxFault.TheVariants.{Coded, NoMemory}
use Rattle.dp_program.specs.Texts.{OfRun, all_texts, some_text}
use Rattle.dp_program.specs.declared.fault_places.Faulted.{Faulted}
use Rattle.dp_program.specs.declared.fault_places.FaultPlace.{FaultPlace}
use Rattle.dp_program.specs.declared.fault_places.FaultPlace.TheVariants.{InLine, InFile, Nowhere}
use Rattle.dp_program.specs.declared.fault_places.Unread.{Unread}

-- the place of a fault: a line of a file that was read, a file that could not be read, or no place
pub data PlaceOf : Type 0 where
  in_line : LineOfFile → PlaceOf
  in_file : List ℕ → PlaceOf
  in_none : PlaceOf

abbrev pub place_of : FaultPlace → PlaceOf
place_of (InLine line) = in_line line
place_of (InFile path) = in_file path.now
place_of Nowhere = in_none

-- a fault that has no place in a file
abbrev pub nowhere : PbxFault → Faulted
nowhere fault = record { fault = fault; place = Nowhere }

-- why a file could not be read, unless memory is the reason
abbrev pub unread_reason : Unread → Option PbxFault
unread_reason unread = reason_of unread.fault

-- the place of the fault of an unread file: the file, or no place if memory ran out
abbrev pub place_unread : Unread → PbxFault → FaultPlace
place_unread unread (Coded code line) = InFile unread.path
place_unread unread NoMemory = Nowhere

-- the fault of a file that could not be read
abbrev pub unread_fault : Unread → Faulted
unread_fault unread = record { fault = unread.fault; place = place_unread unread unread.fault }

-- a result without the place of its fault
abbrev pub without_place : {X : Type 0} → Result X Faulted → Result X PbxFault
without_place (Ok x) = Ok x
without_place (Err faulted) = Err faulted.fault

-- the fault of a result, if there is one, has this place
abbrev pub StandsIn : {X : Type 0} → (PbxFault → PlaceOf) → Result X Faulted → Type 0
StandsIn place_by answered = IfErr answered (λ faulted. place_of faulted.place ≡ place_by faulted.fault)

-- the place of a fault in the text of a file
abbrev pub place_in_file : List ℕ → List ℕ → PbxFault → PlaceOf
place_in_file path text (Coded code (Some number)) = in_line (line_at path text number)
place_in_file path text (Coded code None) = in_none
place_in_file path text NoMemory = in_none

-- the place of a fault of a file at a path that could not be read
abbrev pub unread_place : List ℕ → PbxFault → PlaceOf
unread_place path (Coded code line) = in_file path
unread_place path NoMemory = in_none

-- the place of a fault, given the result of reading the file
abbrev pub place_of_report : List ℕ → Result (List ℕ) PbxFault → PbxFault → PlaceOf
place_of_report path (Ok text) fault = place_in_file path text fault
place_of_report path (Err unread) fault = unread_place path fault

-- an optional file of a run, with its path and its text
abbrev pub named_file : Option (List ℕ) → Option (List ℕ) → Option (List ℕ × List ℕ)
named_file None text = None
named_file (Some path) None = None
named_file (Some path) (Some text) = Some (path, text)

-- the file of a run that a code is about, with its path and its text
abbrev pub file_of : OfRun (List ℕ) → OfRun (List ℕ) → Code → Option (List ℕ × List ℕ)
file_of paths texts (Line kind) = Some (paths.plan, texts.plan)
file_of paths texts (Name fault) = Some (paths.plan, texts.plan)
file_of paths texts (Plan kind) = Some (paths.plan, texts.plan)
file_of paths texts (QueueLine kind) = named_file paths.queues texts.queues
file_of paths texts (Queue kind) = named_file paths.queues texts.queues
file_of paths texts ReadFailed = None
file_of paths texts TooLong = None
file_of paths texts WriteFailed = None
file_of paths texts (Settle fault) = None
file_of paths texts BadScript = Some (paths.script, texts.script)
file_of paths texts BadBreak = None

-- the place of a fault in a file, if the fault is about a file
abbrev pub place_in : Option (List ℕ × List ℕ) → PbxFault → PlaceOf
place_in None fault = in_none
place_in (Some file) fault = place_in_file file.0 file.1 fault

-- the place of a fault in the texts of a run
abbrev pub place_in_files : OfRun (List ℕ) → OfRun (List ℕ) → PbxFault → PlaceOf
place_in_files paths texts (Coded code line) = place_in (file_of paths texts code) (Coded code line)
place_in_files paths texts NoMemory = in_none

-- a path if its file could not be read, else the later path
abbrev pub unread_or : {X : Type 0} → Result X PbxFault → List ℕ → List ℕ → List ℕ
unread_or (Ok x) path later = later
unread_or (Err unread) path later = path

-- the path of the first file that could not be read: of the dialplan, the queues, the second dialplan and the script, in this order
abbrev pub unread_path : OfRun (List ℕ) → OfRun (Result (List ℕ) PbxFault) → List ℕ
unread_path paths read =
    unread_or read.plan paths.plan (unread_or (some_text read.queues) (unwrap_or paths.queues [])
    (unread_or (some_text read.second_plan) (unwrap_or paths.second_plan []) paths.script))

-- the place of a fault, given the texts of a run or else the path of the first file that could not be read
abbrev pub place_by : OfRun (List ℕ) → List ℕ → Result (OfRun (List ℕ)) PbxFault → PbxFault → PlaceOf
place_by paths unread (Ok texts) fault = place_in_files paths texts fault
place_by paths unread (Err first) fault = unread_place unread fault

-- the place of a fault, given the results of reading each file of a run
abbrev pub place_of_run : OfRun (List ℕ) → OfRun (Result (List ℕ) PbxFault) → PbxFault → PlaceOf
place_of_run paths read fault = place_by paths (unread_path paths read) (all_texts read) fault

-- the file that a code is about, of a dialplan and a queue file, each with its path and its text
abbrev pub file_of_two : List ℕ × List ℕ → List ℕ × List ℕ → Code → Option (List ℕ × List ℕ)
file_of_two plan queues (Line kind) = Some plan
file_of_two plan queues (Name fault) = Some plan
file_of_two plan queues (Plan kind) = Some plan
file_of_two plan queues (QueueLine kind) = Some queues
file_of_two plan queues (Queue kind) = Some queues
file_of_two plan queues ReadFailed = None
file_of_two plan queues TooLong = None
file_of_two plan queues WriteFailed = None
file_of_two plan queues (Settle fault) = None
file_of_two plan queues BadScript = None
file_of_two plan queues BadBreak = None

-- the place of a fault in the texts of a dialplan and a queue file
abbrev pub place_in_two : List ℕ × List ℕ → List ℕ × List ℕ → PbxFault → PlaceOf
place_in_two plan queues (Coded code line) = place_in (file_of_two plan queues code) (Coded code line)
place_in_two plan queues NoMemory = in_none

-- the place of a fault, given the paths of a dialplan and a queue file and the results of reading them
abbrev pub place_of_two : List ℕ → List ℕ → Result (List ℕ) PbxFault → Result (List ℕ) PbxFault → PbxFault → PlaceOf
place_of_two path queues_path (Ok plan) (Ok queues) fault = place_in_two (path, plan) (queues_path, queues) fault
place_of_two path queues_path (Ok plan) (Err unread) fault = unread_place queues_path fault
place_of_two path queues_path (Err unread) queues fault = unread_place path fault
