-- The printed lines of notices, in the order of the lines that they are on.
use Rattle.std.specs.Prelude.{ℕ, Bool, true, false, ◌&&◌, ◌||◌, not, List, [], ◌++◌, Option, Some, None, slice_get, codes, decimal, if◌then◌else◌}
use Rattle.std.specs.List.{flat_map}
use Rattle.std.specs.Option.{option_map_or}
use Rattle.dp_conf.specs.Lines.{content_of}
use Rattle.dp_conf.specs.Words.{same_word}
use Rattle.dp_files.specs.Directives.{directive_of, included_name}
use Rattle.dp_files.specs.FolderFiles.{path_of}
use Rattle.dp_files.specs.declared.remark.Fault.{Fault}
use Rattle.dp_files.specs.declared.remark.Fault.TheVariants.{IncludeDepth, NotFound, TooLong, Line, OldForm, NoClock}
use Rattle.dp_files.specs.declared.remark.LineNote.{LineNote}
use Rattle.dp_files.specs.declared.remark.LineNote.TheVariants.{OpenComment, Exec, AfterHint, DoubleLabel, Hint, IgnorePat, Switch, AutoFallThrough, CallerId}
use Rattle.dp_files.specs.declared.source_line.SourceFile.{SourceFile}
use Rattle.dp_files.specs.declared.source_line.SourceLine.{SourceLine}
use Rattle.dp_notices.specs.Notices.{is_fault, wording}
use Rattle.dp_notices.specs.PlanFiles.{PlanFilesOf}
use Rattle.dp_notices.specs.declared.line_notices.NotedLine.{NotedLine}
use Rattle.dp_notices.specs.declared.notice.Notice.{Notice}
use Rattle.dp_notices.specs.declared.notice.Notice.TheVariants.{Read, Loaded, Queue as queue_note, Fault as fault_notice}
use Rattle.dp_notices.specs.declared.notice.NoticeFault.{NoticeFault}
use Rattle.dp_notices.specs.declared.notice.NoticeFault.TheVariants.{Reading, Name, Plan, Queue as queue_fault}
use Rattle.dp_notices.specs.declared.printing.Assumptions.{Assumptions}
use Rattle.dp_notices.specs.declared.printing.Shown.{Shown}
use Rattle.dp_notices.specs.declared.printing.Shown.TheVariants.{All, Faults, Unfollowed, Notes, Followed}

-- the name of the file with a number
abbrev pub file_name : List SourceFile → ℕ → List ℕ
file_name files number = option_map_or (λ file. file.name) (slice_get files number) []

-- the path at which a file is opened, given the path of the first file
abbrev pub file_path : List SourceFile → ℕ → List ℕ
file_path files number = path_of (file_name files 0) (file_name files number)

-- the place of a line, `FILE:LINE: `
abbrev pub place_text : List ℕ → ℕ → List ℕ
place_text file line = file ++ codes ":" ++ decimal line ++ codes ": "

-- a number and a blank, if there is a number
abbrev pub number_text : Option ℕ → List ℕ
number_text None = []
number_text (Some number) = decimal number ++ codes " "

-- the word with which a printed notice begins
abbrev pub first_word : Notice → List ℕ
first_word notice = if is_fault notice then codes "fault " else codes "note "

-- the printed words of a notice: `note KIND`, `fault CODE NAME`, or `fault NAME` if the fault has no number
abbrev pub notice_text : Notice → List ℕ
notice_text notice = first_word notice ++ number_text (wording notice).number ++ (wording notice).name

-- whether a fault of the file reader says that a file is not there
abbrev pub is_not_found : Fault → Bool
is_not_found IncludeDepth = false
is_not_found NotFound = true
is_not_found TooLong = false
is_not_found (Line kind) = false
is_not_found OldForm = false
is_not_found NoClock = false

-- the same for any fault
abbrev pub is_missing_fault : NoticeFault → Bool
is_missing_fault (Reading fault) = is_not_found fault
is_missing_fault (Name fault) = false
is_missing_fault (Plan kind) = false
is_missing_fault (queue_fault kind) = false

-- whether a notice says that a file is not there
abbrev pub is_missing_file : Notice → Bool
is_missing_file (Read note) = false
is_missing_file (Loaded kind) = false
is_missing_file (queue_note note) = false
is_missing_file (fault_notice fault) = is_missing_fault fault

-- a blank, and the name of the file that a line asks for
abbrev pub name_behind : List ℕ → List ℕ
name_behind text = codes " " ++ included_name (directive_of (content_of text))

-- the same, if the notice says that the file is not there
abbrev pub missing_name : List ℕ → Notice → List ℕ
missing_name text notice = if is_missing_file notice then name_behind text else []

-- the printed line of a notice; if it says that a file is not there, the name of the file follows
abbrev pub notice_line : List ℕ → SourceLine → Notice → List ℕ
notice_line file line notice =
    place_text file line.line ++ notice_text notice ++ missing_name line.text notice ++ codes "\n"

-- nothing is assumed of lines that are left out although calls may depend on them
abbrev pub no_assumptions : Assumptions
no_assumptions = record { exec = false; switch = false; auto_fall_through = false; caller_id = false }

-- what is assumed if the lines that get the note with a name have no effect either
abbrev pub with_assumed : Assumptions → List ℕ → Assumptions
with_assumed assumed name = record {
  exec = assumed.exec || same_word name (codes "Exec");
  switch = assumed.switch || same_word name (codes "Switch");
  auto_fall_through = assumed.auto_fall_through || same_word name (codes "AutoFallThrough");
  caller_id = assumed.caller_id || same_word name (codes "CallerId");
}

-- whether a note is on a line that is left out although calls may depend on it, and that may have an effect by what is assumed
abbrev pub is_unfollowed_note : Assumptions → LineNote → Bool
is_unfollowed_note assumed OpenComment = false
is_unfollowed_note assumed Exec = not assumed.exec
is_unfollowed_note assumed AfterHint = false
is_unfollowed_note assumed DoubleLabel = false
is_unfollowed_note assumed Hint = false
is_unfollowed_note assumed IgnorePat = false
is_unfollowed_note assumed Switch = not assumed.switch
is_unfollowed_note assumed AutoFallThrough = not assumed.auto_fall_through
is_unfollowed_note assumed CallerId = not assumed.caller_id

-- the same for a notice
abbrev pub is_unfollowed : Assumptions → Notice → Bool
is_unfollowed assumed (Read note) = is_unfollowed_note assumed note
is_unfollowed assumed (Loaded kind) = false
is_unfollowed assumed (queue_note note) = false
is_unfollowed assumed (fault_notice fault) = false

-- whether a notice is printed
abbrev pub is_shown : Shown → Notice → Bool
is_shown All notice = true
is_shown Faults notice = is_fault notice
is_shown (Unfollowed assumed) notice = is_fault notice || is_unfollowed assumed notice
is_shown Notes notice = not (is_fault notice)
is_shown Followed notice = not (is_fault notice) && not (is_unfollowed no_assumptions notice)

-- the printed lines of the notices on a line, without those that are not shown
abbrev pub notice_lines : Shown → List ℕ → SourceLine → List Notice → List ℕ
notice_lines shown file line notices =
    flat_map (λ notice. if is_shown shown notice then notice_line file line notice else []) notices

-- the same for a line of some files
abbrev pub noted_text : Shown → List SourceFile → NotedLine → List ℕ
noted_text shown files noted = notice_lines shown (file_path files noted.line.file) noted.line noted.notices

-- the same for some lines of these files
abbrev pub lines_text : Shown → List SourceFile → List NotedLine → List ℕ
lines_text shown files lines = flat_map (noted_text shown files) lines

-- the same for all lines of a dialplan
unfoldable pub notices_text : Shown → PlanFilesOf → List ℕ
notices_text shown plan = lines_text shown plan.files plan.lines
