-- The reports on a dialplan and on queues that are read from files.
use Rattle.std.specs.Prelude.{ℕ, ◌+◌, ◌-◌, ◌^◌, ◌==◌, min, List, ◌++◌, codes, decimal, if◌then◌else◌}
use Rattle.dp_notices.specs.LineNotices.{faults_in}
use Rattle.dp_notices.specs.PlanFiles.{PlanFilesOf}
use Rattle.dp_notices.specs.Printing.{notices_text}
use Rattle.dp_notices.specs.QueueFiles.{QueueFilesOf, queue_count, queue_faults, queue_notices_text}
use Rattle.dp_notices.specs.declared.loading.PlanCounts.{PlanCounts}
use Rattle.dp_notices.specs.declared.printing.Shown.TheVariants.{All}

-- the line of a dialplan that loads
abbrev pub counts_line : PlanCounts → List ℕ
counts_line counts =
    codes "ok " ++ decimal counts.contexts ++ codes " contexts " ++ decimal counts.entries ++ codes " entries\n"

-- the line of files with faults
abbrev pub faults_line : ℕ → List ℕ
faults_line faults = decimal faults ++ codes " faults\n"

-- the last line: the counts, or the number of faults if there are any
abbrev pub last_line : PlanCounts → ℕ → List ℕ
last_line counts faults = if faults == 0 then counts_line counts else faults_line faults

-- how many faults a dialplan has
abbrev pub faults_of : PlanFilesOf → ℕ
faults_of plan = faults_in plan.lines

-- the lines of all notices, and then the last line
unfoldable pub check_text : PlanFilesOf → List ℕ
check_text plan = notices_text All plan ++ last_line plan.counts (faults_of plan)

-- the line of queues that load
abbrev pub queues_line : ℕ → List ℕ
queues_line count = codes "ok " ++ decimal count ++ codes " queues\n"

-- the last line of a report on queues: how many there are, or the number of faults if there are any
abbrev pub last_line_of_queues : ℕ → ℕ → List ℕ
last_line_of_queues count faults = if faults == 0 then queues_line count else faults_line faults

-- how many faults the lines of queues have
abbrev pub faults_of_queues : QueueFilesOf → ℕ
faults_of_queues queues = queue_faults queues

-- the lines of all notices on queues, and then the last line
unfoldable pub queues_check_text : QueueFilesOf → List ℕ
queues_check_text queues = queue_notices_text All queues ++ last_line_of_queues (queue_count queues) (faults_of_queues queues)

-- the last lines of a report on a dialplan and queues: the counts of both, or the number of faults if there are any
abbrev pub last_lines_of_both : PlanCounts → ℕ → ℕ → List ℕ
last_lines_of_both counts count faults = if faults == 0 then counts_line counts ++ queues_line count else faults_line faults

-- how many faults a dialplan and queues have; the count stops at the greatest 128-bit number
abbrev pub faults_of_both : PlanFilesOf → QueueFilesOf → ℕ
faults_of_both plan queues = min (faults_of plan + faults_of_queues queues) (2 ^ 128 - 1)

-- the lines of all notices on a dialplan, then those on queues, and then the last lines
unfoldable pub both_check_text : PlanFilesOf → QueueFilesOf → List ℕ
both_check_text plan queues =
    notices_text All plan ++ (queue_notices_text All queues ++ last_lines_of_both plan.counts (queue_count queues) (faults_of_both plan queues))
