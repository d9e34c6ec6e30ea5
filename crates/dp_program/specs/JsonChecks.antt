-- The reports of `check` as JSON: an object on a line of its own for each line that is printed otherwise.
use Rattle.std.specs.Prelude.{ℕ, ◌==◌, List, ◌++◌, length, Result, Ok, if◌then◌else◌}
use Rattle.dp_conf.specs.Answers.{◌>>=◌}
use Rattle.dp_plan.specs.Loaded.{plan_and_notes}
use Rattle.dp_plan.specs.Plan.{PlanOf}
use Rattle.dp_plan.specs.declared.note.Note.{Note}
use Rattle.dp_commands.specs.Report.{entries_in}
use Rattle.dp_commands.specs.Run.{plan_fault}
use Rattle.dp_commands.specs.declared.fault.PbxFault.{PbxFault}
use Rattle.dp_json.specs.Notes.{counts_object, notes_text}
use Rattle.dp_json.specs.Notices.{faults_object, notices_text, queues_object}
use Rattle.dp_json.specs.Objects.{object_text}
use Rattle.dp_notices.specs.Checks.{faults_of, faults_of_both, faults_of_queues}
use Rattle.dp_notices.specs.PlanFiles.{PlanFilesOf}
use Rattle.dp_notices.specs.QueueFiles.{QueueFilesOf, queue_count}
use Rattle.dp_notices.specs.declared.loading.PlanCounts.{PlanCounts}
use Rattle.dp_notices.specs.declared.printing.Shown.TheVariants.{All}

-- the lines on a dialplan with notes: its notes, then its counts
abbrev pub check_lines : PlanOf × List Note → List ℕ
check_lines read = notes_text read.1 ++ object_text (counts_object (length read.0.contexts) (entries_in read.0.contexts))

-- the lines on the dialplan that a text holds, or the text's fault
unfoldable pub check_json_of : List ℕ → Result (List ℕ) PbxFault
check_json_of plan = plan_fault (plan_and_notes plan) >>= λ read. Ok (check_lines read)

-- ---- with the files that are included

-- the line of a dialplan that loads
abbrev pub counts_line : PlanCounts → List ℕ
counts_line counts = object_text (counts_object counts.contexts counts.entries)

-- the line of queues that load
abbrev pub queues_line : ℕ → List ℕ
queues_line count = object_text (queues_object count)

-- the line of files with faults
abbrev pub faults_line : ℕ → List ℕ
faults_line faults = object_text (faults_object faults)

-- the last line: the counts, or the number of faults if there are any
abbrev pub last_line : PlanCounts → ℕ → List ℕ
last_line counts faults = if faults == 0 then counts_line counts else faults_line faults

-- the lines of all notices on a dialplan, and then the last line
unfoldable pub plan_lines : PlanFilesOf → List ℕ
plan_lines plan = notices_text All plan.files plan.lines ++ last_line plan.counts (faults_of plan)

-- the last line on queues: how many there are, or the number of faults if there are any
abbrev pub last_line_of_queues : ℕ → ℕ → List ℕ
last_line_of_queues count faults = if faults == 0 then queues_line count else faults_line faults

-- the lines of all notices on queues, and then the last line
unfoldable pub queues_lines : QueueFilesOf → List ℕ
queues_lines queues = notices_text All queues.files queues.lines ++ last_line_of_queues (queue_count queues) (faults_of_queues queues)

-- the last lines on a dialplan and queues: the counts of both, or the number of faults if there are any
abbrev pub last_lines_of_both : PlanCounts → ℕ → ℕ → List ℕ
last_lines_of_both counts count faults = if faults == 0 then counts_line counts ++ queues_line count else faults_line faults

-- the lines of all notices on a dialplan, then those on queues, and then the last lines
unfoldable pub both_lines : PlanFilesOf → QueueFilesOf → List ℕ
both_lines plan queues =
    notices_text All plan.files plan.lines
    ++ (notices_text All queues.files queues.lines ++ last_lines_of_both plan.counts (queue_count queues) (faults_of_both plan queues))
