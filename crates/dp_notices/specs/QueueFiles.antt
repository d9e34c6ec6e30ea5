-- A file of queues that is read with the files that it includes, with the notices on their lines.
use Rattle.std.specs.Prelude.{ℕ, false, List, ◌++◌, length, map, Option, Some, None, Result, Ok, Err}
use Rattle.std.specs.List.{flat_map}
use Rattle.std.specs.Option.{option_to_list}
use Rattle.dp_conf.specs.Answers.{◌>>=◌}
use Rattle.dp_files.specs.Configuration.{ConfigurationOf, configuration_of}
use Rattle.dp_files.specs.DialplanText.{text_of}
use Rattle.dp_files.specs.Sources.{Files}
use Rattle.dp_files.specs.declared.reading.ReadingFault.{ReadingFault}
use Rattle.dp_files.specs.declared.remark.Fault.TheVariants.{Line}
use Rattle.dp_files.specs.declared.source_line.MadeLine.{MadeLine}
use Rattle.dp_files.specs.declared.source_line.SourceFile.{SourceFile}
use Rattle.dp_notices.specs.LineNotices.{faults_in, noted_lines}
use Rattle.dp_notices.specs.Loading.{notice_at_source, notice_on_line, without_faulty}
use Rattle.dp_notices.specs.PlanFiles.{reading_notice}
use Rattle.dp_notices.specs.Printing.{lines_text}
use Rattle.dp_notices.specs.QueueLines.{queue_lines, queue_notes}
use Rattle.dp_notices.specs.declared.line_notices.NotedLine.{NotedLine}
use Rattle.dp_notices.specs.declared.line_notices.NoticeAt.{NoticeAt}
use Rattle.dp_notices.specs.declared.loading.NumberedNotice.{NumberedNotice}
use Rattle.dp_notices.specs.declared.notice.Notice.TheVariants.{Fault as fault_kind}
use Rattle.dp_notices.specs.declared.notice.NoticeFault.{NoticeFault}
use Rattle.dp_notices.specs.declared.notice.NoticeFault.TheVariants.{Reading, Queue as queue_fault}
use Rattle.dp_notices.specs.declared.printing.Shown.{Shown}
use Rattle.dp_notices.specs.declared.queue_files.QueueFiles.{QueueFiles}
use Rattle.dp_queue.specs.AllFaults as faults
use Rattle.dp_queue.specs.File.{queues_in as queues_in_text}
use Rattle.dp_queue.specs.Queues.{QueuesOf}
use Rattle.dp_queue.specs.declared.fault.QueueFault.{QueueFault}
use Rattle.dp_queue.specs.declared.fault.QueueFault.TheVariants.{Line as load_line, NoMemory}
use Rattle.dp_queue.specs.declared.fault.QueueLoadKind.{QueueLoadKind}
use Rattle.dp_queue.specs.declared.fault.QueueLoadKind.TheVariants.{Conf, Queue}

-- ---- the faults of a text

-- why a line that the loader refuses is left out
abbrev pub queue_line_fault : QueueLoadKind → NoticeFault
queue_line_fault (Conf kind) = Reading (Line kind)
queue_line_fault (Queue kind) = queue_fault kind

-- the notice of a fault, if the fault is at a line
abbrev pub queue_fault_notice : QueueFault → Option NumberedNotice
queue_fault_notice (load_line line kind) = Some (notice_on_line line (fault_kind (queue_line_fault kind)))
queue_fault_notice NoMemory = None

-- the same as a list
abbrev pub queue_fault_notices : QueueFault → List NumberedNotice
queue_fault_notices fault = option_to_list (queue_fault_notice fault)

-- the notices of the faults of a text: the faults of its lines, or the fault of the text itself
abbrev pub queue_notices_of : Result (List QueueFault) QueueFault → List NumberedNotice
queue_notices_of (Ok found) = flat_map queue_fault_notices found
queue_notices_of (Err fault) = queue_fault_notices fault

-- the same, given the lines of the text
unfoldable pub queue_faults_of : List MadeLine → List NumberedNotice
queue_faults_of lines = queue_notices_of (faults.faults_in (text_of lines))

-- ---- the files

-- the files, their lines with the notices on each, and the lines that load
pub record QueueFilesOf : Type 0 where
  pub files : List SourceFile
  pub lines : List NotedLine
  pub made : List MadeLine

-- the queues of files that were read, given the lines with the words that the reader of queues knows, the notes on them and their faults
abbrev pub queues_with : ConfigurationOf → List MadeLine → List NoticeAt → List NumberedNotice → QueueFilesOf
queues_with read made notes found = record {
  files = read.files;
  lines = noted_lines read.lines (map reading_notice read.remarks ++ (flat_map (notice_at_source made) found ++ notes));
  made = without_faulty found made;
}

-- the same, given the lines with these words and the notes
abbrev pub queues_by : ConfigurationOf → List MadeLine → List NoticeAt → QueueFilesOf
queues_by read made notes = queues_with read made notes (queue_faults_of made)

-- the queues of files that were read
abbrev pub queues_in : ConfigurationOf → QueueFilesOf
queues_in read = queues_by read (queue_lines false read.made) (queue_notes false read.made)

-- the queues of the file with this name
abbrev pub queues_of : Files → List ℕ → Result QueueFilesOf ReadingFault
queues_of files name = configuration_of files name >>= λ read. Ok (queues_in read)

-- the result of a call
abbrev pub queues_now : QueueFiles → QueueFilesOf
queues_now queues = record { files = queues.files.items; lines = queues.lines.items; made = queues.made.items }

-- how many faults the lines have
abbrev pub queue_faults : QueueFilesOf → ℕ
queue_faults queues = faults_in queues.lines

-- how many queues a text has; a text with a fault has none
abbrev pub count_in : Result QueuesOf QueueFault → ℕ
count_in (Ok queues) = length queues.queues
count_in (Err fault) = 0

-- how many queues load
unfoldable pub queue_count : QueueFilesOf → ℕ
queue_count queues = count_in (queues_in_text (text_of queues.made))

-- the printed lines of the notices on all lines, without those that are not shown
unfoldable pub queue_notices_text : Shown → QueueFilesOf → List ℕ
queue_notices_text shown queues = lines_text shown queues.files queues.lines
