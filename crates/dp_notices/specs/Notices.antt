-- Notices on lines, as they are printed.
use Rattle.std.specs.Prelude.{ℕ, Bool, true, false, List, Option, Some, None, codes}
use Rattle.dp_conf.specs.Codes.{line_code, line_name}
use Rattle.dp_conf.specs.declared.fault.LineKind.{LineKind}
use Rattle.dp_files.specs.declared.remark.Fault.{Fault}
use Rattle.dp_files.specs.declared.remark.Fault.TheVariants.{IncludeDepth, NotFound, TooLong, Line, OldForm as old_form, NoClock}
use Rattle.dp_files.specs.declared.remark.LineNote.{LineNote}
use Rattle.dp_files.specs.declared.remark.LineNote.TheVariants.{OpenComment, Exec, AfterHint, DoubleLabel, Hint as hint_note, IgnorePat as ignorepat_note, Switch as switch_note, AutoFallThrough, CallerId as caller_note}
use Rattle.dp_files.specs.declared.remark.RemarkKind.{RemarkKind}
use Rattle.dp_files.specs.declared.remark.RemarkKind.TheVariants.{Note as note_kind, Fault as fault_kind}
use Rattle.dp_pattern.specs.Codes.{name_code, fault_name}
use Rattle.dp_plan.specs.Codes.{note_name, plan_code, plan_name}
use Rattle.dp_plan.specs.declared.fault.PlanKind.{PlanKind}
use Rattle.dp_plan.specs.declared.fault.PlanKind.TheVariants.{LeftOut}
use Rattle.dp_plan.specs.declared.fault.Word.{Word}
use Rattle.dp_plan.specs.declared.fault.Word.TheVariants.{Switch, IgnorePat, CallerId, IncludeTimes, Variable, Hint, OldForm, PriorityWord}
use Rattle.dp_notices.specs.declared.notice.NoticeFault.{NoticeFault}
use Rattle.dp_notices.specs.declared.notice.NoticeFault.TheVariants.{Reading, Name, Plan, Queue as queue_fault}
use Rattle.dp_notices.specs.declared.notice.Notice.{Notice}
use Rattle.dp_notices.specs.declared.notice.Notice.TheVariants.{Read, Loaded, Queue as queue_note, Fault as fault_notice}
use Rattle.dp_notices.specs.declared.notice.QueueNote.{QueueNote}
use Rattle.dp_notices.specs.declared.notice.QueueNote.TheVariants.{Random, InUse}
use Rattle.dp_queue.specs.Codes.{queue_code, queue_name}

-- the name of a note of the file reader
abbrev pub reading_note_name : LineNote → List ℕ
reading_note_name OpenComment = codes "OpenComment"
reading_note_name Exec = codes "Exec"
reading_note_name AfterHint = codes "AfterHint"
reading_note_name DoubleLabel = codes "DoubleLabel"
reading_note_name hint_note = codes "Hint"
reading_note_name ignorepat_note = codes "IgnorePat"
reading_note_name switch_note = codes "Switch"
reading_note_name AutoFallThrough = codes "AutoFallThrough"
reading_note_name caller_note = codes "CallerId"

-- the number and the name with which a notice is printed; some faults of the file reader have no number
pub record Wording : Type 0 where
  pub number : Option ℕ
  pub name : List ℕ

-- the wording of a fault with a number
abbrev pub wording_with_number : ℕ → List ℕ → Wording
wording_with_number number name = record { number = Some number; name = name }

-- the wording of a note, or of a fault without a number
abbrev pub wording_by_name : List ℕ → Wording
wording_by_name name = record { number = None; name = name }

-- the wording of a line that is not valid in a configuration file
abbrev pub line_wording : LineKind → Wording
line_wording kind = wording_with_number (line_code kind) (line_name kind)

-- the name of the fault `LeftOut`, with the kind of what this program leaves out
abbrev pub left_out_name : Word → List ℕ
left_out_name Switch = codes "LeftOut Switch"
left_out_name IgnorePat = codes "LeftOut IgnorePat"
left_out_name CallerId = codes "LeftOut CallerId"
left_out_name IncludeTimes = codes "LeftOut IncludeTimes"
left_out_name Variable = codes "LeftOut Variable"
left_out_name Hint = codes "LeftOut Hint"
left_out_name OldForm = codes "LeftOut OldForm"
left_out_name PriorityWord = codes "LeftOut PriorityWord"

-- the name of a fault of the loader
abbrev pub loader_name : PlanKind → List ℕ
loader_name (LeftOut word) = left_out_name word
loader_name kind = plan_name kind

-- the wording of a fault of the file reader
abbrev pub reading_wording : Fault → Wording
reading_wording IncludeDepth = wording_by_name (codes "IncludeDepth")
reading_wording NotFound = wording_with_number 7 (codes "ReadFailed")
reading_wording TooLong = wording_with_number 8 (codes "TooLong")
reading_wording (Line kind) = line_wording kind
reading_wording old_form = wording_by_name (codes "OldForm")
reading_wording NoClock = wording_by_name (codes "NoClock")

-- the name of a note on a line of a file of queues
abbrev pub queue_note_name : QueueNote → List ℕ
queue_note_name Random = codes "Random"
queue_note_name InUse = codes "InUse"

-- the wording of a fault
abbrev pub fault_wording : NoticeFault → Wording
fault_wording (Reading fault) = reading_wording fault
fault_wording (Name fault) = wording_with_number (name_code fault) (fault_name fault)
fault_wording (Plan kind) = wording_with_number (plan_code kind) (loader_name kind)
fault_wording (queue_fault kind) = wording_with_number (queue_code kind) (queue_name kind)

-- the wording of a notice; a note has no number
abbrev pub wording : Notice → Wording
wording (Read note) = wording_by_name (reading_note_name note)
wording (Loaded kind) = wording_by_name (note_name kind)
wording (queue_note note) = wording_by_name (queue_note_name note)
wording (fault_notice fault) = fault_wording fault

-- whether a notice is a fault
abbrev pub is_fault : Notice → Bool
is_fault (Read note) = false
is_fault (Loaded kind) = false
is_fault (queue_note note) = false
is_fault (fault_notice fault) = true

-- the notice of a remark of the file reader
abbrev pub of_reading : RemarkKind → Notice
of_reading (note_kind note) = Read note
of_reading (fault_kind fault) = fault_notice (Reading fault)
