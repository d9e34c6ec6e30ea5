-- The reports on a dialplan, on a queue file, and on both.
use Rattle.std.specs.Prelude.{ℕ, Bool, true, false, List, ◌++◌, length, Result, Ok, codes, decimal, if◌then◌else◌}
use Rattle.dp_conf.specs.Answers.{◌>>=◌}
use Rattle.dp_plan.specs.Loaded.{plan_and_notes as loaded_plan}
use Rattle.dp_queue.specs.File.{queues_in}
use Rattle.dp_commands.specs.Report.{check_explained_of, check_of}
use Rattle.dp_commands.specs.Run.{plan_fault, queue_fault}
use Rattle.dp_commands.specs.declared.fault.PbxFault.{PbxFault}
use Rattle.dp_program.specs.JsonChecks.{check_json_of, queues_line as queues_object_line}

-- the report on a dialplan, given the path and the text of its file, whether it is JSON, and whether its notes are explained: JSON has no
-- explanations
abbrev pub check_by : Bool → Bool → List ℕ → List ℕ → Result (List ℕ) PbxFault
check_by true explains path plan = check_json_of plan
check_by false explains path plan = if explains then check_explained_of path plan else check_of plan

-- the line for a number of queues that were loaded, `ok Q queues` or JSON
abbrev pub queues_line : Bool → ℕ → List ℕ
queues_line true count = queues_object_line count
queues_line false count = codes "ok " ++ decimal count ++ codes " queues\n"

-- the report on the text of a queue file, or the text's fault
unfoldable pub queues_report : Bool → List ℕ → Result (List ℕ) PbxFault
queues_report is_json text = queue_fault (queues_in text) >>= λ queues. Ok (queues_line is_json (length queues.queues))

-- a report followed by a line
abbrev pub with_line : List ℕ → Result (List ℕ) PbxFault → Result (List ℕ) PbxFault
with_line line report = report >>= λ said. Ok (said ++ line)

-- the report after that of a dialplan, or the dialplan's fault
abbrev pub after_plan : List ℕ → Result (List ℕ) PbxFault → Result (List ℕ) PbxFault
after_plan plan later = plan_fault (loaded_plan plan) >>= λ read. later

-- the report on a dialplan and its queues, or the first fault: that of the dialplan, then that of the queues
abbrev pub both_report : Bool → Bool → List ℕ → List ℕ → List ℕ → Result (List ℕ) PbxFault
both_report is_json explains path plan queues =
    check_by is_json explains path plan >>= λ said. queues_report is_json queues >>= λ line. Ok (said ++ line)
