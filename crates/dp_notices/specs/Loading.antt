-- Loading lines as a dialplan: all faults of the loader, the lines that load, and the notes on these lines.
use Rattle.std.specs.Prelude.{ℕ, ◌-◌, List, [], ◌∷◌, ◌++◌, length, map, sum, fold, Option, Some, None, slice_get, unwrap_or, Result, Ok, Err}
use Rattle.std.specs.List.{flat_map}
use Rattle.std.specs.Option.{option_to_list}
use Rattle.dp_conf.specs.Changes.{changed_at}
use Rattle.dp_files.specs.DialplanText.{text_of}
use Rattle.dp_files.specs.declared.remark.Fault.TheVariants.{Line, NoClock}
use Rattle.dp_files.specs.declared.source_line.MadeLine.{MadeLine}
use Rattle.dp_notices.specs.declared.line_notices.NoticeAt.{NoticeAt}
use Rattle.dp_notices.specs.declared.loading.LoadedLines.{LoadedLines}
use Rattle.dp_notices.specs.declared.loading.Loading.{Loading}
use Rattle.dp_notices.specs.declared.loading.NumberedNotice.{NumberedNotice}
use Rattle.dp_notices.specs.declared.loading.PlanCounts.{PlanCounts}
use Rattle.dp_notices.specs.declared.notice.Notice.{Notice}
use Rattle.dp_notices.specs.declared.notice.Notice.TheVariants.{Loaded, Fault as fault_kind}
use Rattle.dp_notices.specs.declared.notice.NoticeFault.{NoticeFault}
use Rattle.dp_notices.specs.declared.notice.NoticeFault.TheVariants.{Reading, Name, Plan}
use Rattle.dp_plan.specs.AllFaults.{faults_of}
use Rattle.dp_plan.specs.Contexts.{PlanContext}
use Rattle.dp_plan.specs.Loaded.{plan_and_notes}
use Rattle.dp_plan.specs.Plan.{PlanOf}
use Rattle.dp_plan.specs.declared.fault.LoadFault.{LoadFault}
use Rattle.dp_plan.specs.declared.fault.LoadFault.TheVariants.{Line as load_line, NoMemory}
use Rattle.dp_plan.specs.declared.fault.LoadKind.{LoadKind}
use Rattle.dp_plan.specs.declared.fault.LoadKind.TheVariants.{Conf, Pattern, Plan as load_plan}
use Rattle.dp_plan.specs.declared.fault.PlanKind.{PlanKind}
use Rattle.dp_plan.specs.declared.fault.PlanKind.TheVariants.{LeftOut}
use Rattle.dp_plan.specs.declared.fault.Word.{Word}
use Rattle.dp_plan.specs.declared.fault.Word.TheVariants.{IncludeTimes}
use Rattle.dp_plan.specs.declared.note.Note.{Note}

-- a notice on the line of the text with a number
abbrev pub notice_on_line : ℕ → Notice → NumberedNotice
notice_on_line line notice = record { line = line; notice = notice }

-- the fault of a line that is left out; for an include with times, it is that no moment is given
abbrev pub left_out_fault : Word → NoticeFault
left_out_fault IncludeTimes = Reading NoClock
left_out_fault word = Plan (LeftOut word)

-- why a line of a context is left out
abbrev pub loader_fault : PlanKind → NoticeFault
loader_fault (LeftOut word) = left_out_fault word
loader_fault kind = Plan kind

-- why a line that the loader refuses is left out
abbrev pub line_fault : LoadKind → NoticeFault
line_fault (Conf kind) = Reading (Line kind)
line_fault (Pattern fault) = Name fault
line_fault (load_plan kind) = loader_fault kind

-- the notice of a fault, if the fault is at a line
abbrev pub fault_notice : LoadFault → Option NumberedNotice
fault_notice (load_line line kind) = Some (notice_on_line line (fault_kind (line_fault kind)))
fault_notice NoMemory = None

-- the same as a list
abbrev pub fault_notices : LoadFault → List NumberedNotice
fault_notices fault = option_to_list (fault_notice fault)

-- the notices of the faults of a text: the faults of its lines, or the fault of the text itself
abbrev pub notices_of : Result (List LoadFault) LoadFault → List NumberedNotice
notices_of (Ok faults) = flat_map fault_notices faults
notices_of (Err fault) = fault_notices fault

-- the same, given the text
abbrev pub faults_in_text : List ℕ → List NumberedNotice
faults_in_text text = notices_of (faults_of text)

-- a notice on a line, put at the line of a file from which it is made
abbrev pub at_source : Notice → Option MadeLine → List NoticeAt
at_source notice None = []
at_source notice (Some line) = record { source = line.source; notice = notice } ∷ []

-- a notice on the line with a number, put at the line of a file from which it is made
abbrev pub notice_at_source : List MadeLine → NumberedNotice → List NoticeAt
notice_at_source lines notice = at_source notice.notice (slice_get lines (notice.line - 1))

-- the same for a note of the loader
abbrev pub note_at_source : List MadeLine → Note → List NoticeAt
note_at_source lines note = notice_at_source lines (notice_on_line note.line (Loaded note.kind))

-- a line without its text
abbrev pub without_text : MadeLine → MadeLine
without_text line = record { source = line.source; text = [] }

-- the line at a place is made empty
abbrev pub emptied_at : ℕ → List MadeLine → List MadeLine
emptied_at place lines = changed_at without_text place lines

-- each line with one of these faults is made empty
abbrev pub without_faulty : List NumberedNotice → List MadeLine → List MadeLine
without_faulty faults lines = fold (λ lines (fault : NumberedNotice). emptied_at (fault.line - 1) lines) lines faults

-- how many entries the contexts have in total
abbrev pub entries_in : List PlanContext → ℕ
entries_in contexts = sum (map (λ context. length context.entries) contexts)

-- how many contexts and entries a dialplan has
abbrev pub counts_of : PlanOf → PlanCounts
counts_of plan = record { contexts = length plan.contexts; entries = entries_in plan.contexts }

-- a dialplan's counts and notes
pub record LoadingOf : Type 0 where
  pub counts : PlanCounts
  pub notes : List Note

-- the counts and notes of no dialplan
abbrev pub nothing_loaded : LoadingOf
nothing_loaded = record { counts = record { contexts = 0; entries = 0 }; notes = [] }

-- what a text loads as, if it does
abbrev pub loading_in : Result (PlanOf × List Note) LoadFault → Option LoadingOf
loading_in (Ok read) = Some (record { counts = counts_of read.0; notes = read.1 })
loading_in (Err fault) = None

-- what a text loads as, or an empty dialplan if it does not load
abbrev pub loading_of : Result (PlanOf × List Note) LoadFault → LoadingOf
loading_of read = unwrap_or (loading_in read) nothing_loaded

-- the result of a call
abbrev pub loading_now : Loading → LoadingOf
loading_now loading = record { counts = loading.counts; notes = loading.notes.items }

-- the lines that load, the notices at the lines of files from which they are made, and the counts of the dialplan
pub record LoadedOf : Type 0 where
  pub lines : List MadeLine
  pub notices : List NoticeAt
  pub counts : PlanCounts

-- the same, given the lines, their faults, and what the lines without the faulty ones load as
abbrev pub loaded_by : List MadeLine → List NumberedNotice → LoadingOf → LoadedOf
loaded_by lines faults loading = record {
  lines = without_faulty faults lines;
  notices = flat_map (notice_at_source lines) faults ++ flat_map (note_at_source (without_faulty faults lines)) loading.notes;
  counts = loading.counts;
}

-- the lines are loaded without the faulty ones
unfoldable pub loaded_lines : List MadeLine → LoadedOf
loaded_lines lines =
    loaded_by lines (faults_in_text (text_of lines))
    (loading_of (plan_and_notes (text_of (without_faulty (faults_in_text (text_of lines)) lines))))

-- the result of a call
abbrev pub loaded_now : LoadedLines → LoadedOf
loaded_now loaded = record { lines = loaded.lines.items; notices = loaded.notices.items; counts = loaded.counts }
