-- Dialplans that are read with the files that they include, and what commands do with them.
use Rattle.std.specs.Prelude.{◌≡◌, ℕ, false, ◌==◌, List, [], ◌∷◌, ◌++◌, length, map, slice_get, codes, Option, Some, is_some, Result, Ok, Err, if◌then◌else◌}
use Rattle.std.specs.Io.KnownBytes.{Appends}
use Rattle.std.specs.Option.{option_and_then, option_map_or}
use Rattle.dp_conf.specs.Words.{same_text}
use Rattle.dp_commands.specs.LinePlaces.{PlacesOfLines, in_files}
use Rattle.dp_commands.specs.declared.fault.PbxFault.{PbxFault}
use Rattle.dp_commands.specs.declared.fault.PbxFault.TheVariants.{Coded, NoMemory}
use Rattle.dp_commands.specs.declared.line_places.LinePosition.{LinePosition}
use Rattle.dp_files.specs.DialplanText.{text_of}
use Rattle.dp_files.specs.FolderFiles.{ReadsFolder, path_of}
use Rattle.dp_files.specs.declared.reading.ReadingFault.{ReadingFault}
use Rattle.dp_files.specs.declared.source_line.MadeLine.{MadeLine}
use Rattle.dp_files.specs.declared.source_line.SourceFile.{SourceFile}
use Rattle.dp_notices.specs.PlanFiles.{PlanFilesOf, plan_of}
use Rattle.dp_notices.specs.Printing.{file_name, notices_text}
use Rattle.dp_notices.specs.declared.line_notices.NotedLine.{NotedLine}
use Rattle.dp_notices.specs.declared.printing.Shown.{Shown}
use Rattle.dp_notices.specs.declared.printing.Shown.TheVariants.{Faults, Unfollowed}
use Rattle.dp_program.specs.Faulted.{nowhere, place_of, unread_place}
use Rattle.dp_program.specs.Files.{ByteSource, source}
use Rattle.dp_program.specs.Including.{MayTellOf, reading_fault}
use Rattle.dp_program.specs.declared.dialplans.PlanText.{PlanText}
use Rattle.dp_program.specs.declared.dialplans.PlanUse.{PlanUse}
use Rattle.dp_program.specs.declared.dialplans.PlanUse.TheVariants.{Report, LookUp, Run}
use Rattle.dp_program.specs.declared.dialplans.ReadDialplan.{ReadDialplan}
use Rattle.dp_program.specs.declared.dialplans.ReadDialplan.TheVariants.{Loads, Faulty}
use Rattle.dp_program.specs.declared.fault_places.Faulted.{Faulted}
use Rattle.dp_program.specs.declared.hints.ServedRequest.{ServedRequest}
use Rattle.dp_wide.specs.Times.{moment_of}
use Rattle.dp_wide.specs.declared.times.Moment.{Moment}

-- a dialplan's text, the paths of its files, and the position that each line comes from
pub record PlanTextOf : Type 0 where
  pub text : List ℕ
  pub names : List (List ℕ)
  pub lines : List LinePosition

-- where its lines come from
abbrev pub places_in : PlanTextOf → PlacesOfLines
places_in plan = in_files plan.names plan.lines

-- the position of a line of a file
abbrev pub position_of : NotedLine → LinePosition
position_of noted = record { file = noted.line.file; line = noted.line.line }

-- the position of the line from which a line is made
abbrev pub source_position : List NotedLine → MadeLine → LinePosition
source_position lines made = option_map_or position_of (slice_get lines made.source) (record { file = 0; line = 0 })

-- the path of a file, given the name of the first one
abbrev pub path_in : List ℕ → SourceFile → List ℕ
path_in first file = path_of first file.name

-- the notices for which a command does nothing, given what it reads a dialplan for
abbrev pub shown_for : PlanUse → Shown
shown_for Report = Faults
shown_for (LookUp assumed) = Unfollowed assumed
shown_for (Run assumed) = Unfollowed assumed

-- the moment that a word writes, if there is one
abbrev pub moment_in : Option (List ℕ) → Option Moment
moment_in word = option_and_then moment_of word

-- the lines of a dialplan that set the global `CLOCK` to a word
abbrev pub clock_text : List ℕ → List ℕ
clock_text word = codes "[globals]\nCLOCK=" ++ (word ++ 10 ∷ [])

-- the same, if the word writes a moment
abbrev pub clock_lines : List ℕ → List ℕ
clock_lines word = if is_some (moment_of word) then clock_text word else []

-- the lines that are added to the text of a dialplan: a run begins with the global `CLOCK`
abbrev pub lines_added : PlanUse → Option (List ℕ) → List ℕ
lines_added Report clock = []
lines_added (LookUp assumed) clock = []
lines_added (Run assumed) clock = option_map_or clock_lines clock []

-- the text of a dialplan that was read from files, and where its lines come from
abbrev pub plan_text : PlanUse → Option (List ℕ) → PlanFilesOf → PlanTextOf
plan_text purpose clock plan = record {
  text = text_of plan.made ++ lines_added purpose clock;
  names = map (path_in (file_name plan.files 0)) plan.files;
  lines = map (source_position plan.lines) plan.made;
}

-- the result of reading a dialplan for a command: the text that the command uses, or the lines of the notices for which it does nothing
pub data DialplanRead : Type 0 where
  loads : PlanTextOf → DialplanRead
  faulty : List ℕ → DialplanRead

-- the same, given the lines of these notices and the text
abbrev pub dialplan_by : List ℕ → PlanTextOf → DialplanRead
dialplan_by told text = if length told == 0 then loads text else faulty told

-- the same for a dialplan that was read from files, given what the command reads it for and the word of `--clock`
abbrev pub dialplan_of : PlanUse → Option (List ℕ) → PlanFilesOf → DialplanRead
dialplan_of purpose clock plan = dialplan_by (notices_text (shown_for purpose) plan) (plan_text purpose clock plan)

-- the same, or why nothing was read
abbrev pub dialplan_read : PlanUse → Option (List ℕ) → Result PlanFilesOf ReadingFault → Result DialplanRead PbxFault
dialplan_read purpose clock (Ok plan) = Ok (dialplan_of purpose clock plan)
dialplan_read purpose clock (Err fault) = Err (reading_fault fault)

-- the result of a call
abbrev pub text_now : PlanText → PlanTextOf
text_now plan = record { text = plan.text.items; names = plan.names.items; lines = plan.lines.items }

abbrev pub read_now : ReadDialplan → DialplanRead
read_now (Loads plan) = loads (text_now plan)
read_now (Faulty told) = faulty told.items

-- files of which the one at a path has this text
abbrev pub with_text : (List ℕ → ByteSource) → List ℕ → List ℕ → List ℕ → ByteSource
with_text files path text other = if same_text other path then source (Some text) false else files other

-- nothing is written, the notices are printed beside the result, and the status is 1, unless memory runs out
abbrev pub TellsFaults : List ℕ → Option (List ℕ) → Option (List ℕ) → Result ServedRequest Faulted → Type 0
TellsFaults told old new (Ok served) = Appends old new [] × (served.status ≡ 1) × (served.hint.items ≡ told)
TellsFaults told old new (Err faulted) = Appends old new [] × (faulted ≡ nowhere NoMemory)

-- the fault is this one, or out of memory
abbrev pub IsFault : PbxFault → PbxFault → Type 0
IsFault fault (Coded code line) = fault ≡ Coded code line
IsFault fault NoMemory = Unit {0}

-- nothing is written, and the result is the fault of the file at a path
abbrev pub FailsToRead : List ℕ → PbxFault → Option (List ℕ) → Option (List ℕ) → Result ServedRequest Faulted → Type 0
FailsToRead path fault old new (Ok served) = ⊥
FailsToRead path fault old new (Err faulted) =
    Appends old new [] × IsFault fault faulted.fault × (place_of faulted.place ≡ unread_place path faulted.fault)

-- the output and result of a command, given what it does with the text of a dialplan
abbrev pub OnDialplan : (PlanTextOf → Result ServedRequest Faulted → Type 0) → List ℕ → Option (List ℕ) → Option (List ℕ) → Result DialplanRead PbxFault → Result ServedRequest Faulted → Type 0
OnDialplan Holds path old new (Ok (loads plan)) answered = Holds plan answered
OnDialplan Holds path old new (Ok (faulty told)) answered = TellsFaults told old new answered
OnDialplan Holds path old new (Err fault) answered = FailsToRead path fault old new answered

-- the same over the dialplan at a path and the files that it includes, given what the command reads it for and the word of `--clock`: for
-- all files that are as they were read
abbrev pub ReadsDialplan : PlanUse → Option (List ℕ) → (List ℕ → ByteSource) → List ℕ → (PlanTextOf → Result ServedRequest Faulted → Type 0) → Option (List ℕ) → Option (List ℕ) → Result ServedRequest Faulted → Type 0
ReadsDialplan purpose clock files path Holds old new answered =
    ReadsFolder (MayTellOf files path)
    (λ has. OnDialplan Holds path old new (dialplan_read purpose clock (plan_of (moment_in clock) has path)) answered)
