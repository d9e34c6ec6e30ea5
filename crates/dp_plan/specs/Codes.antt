-- The numbers of the faults of a dialplan, the names printed next to them, and the text of a fault at a line.
use Rattle.std.specs.Prelude.{ℕ, List, ◌++◌, codes, decimal}
use Rattle.dp_conf.specs.Codes.{line_code, line_name}
use Rattle.dp_pattern.specs.Codes.{name_code, fault_name}
use Rattle.dp_plan.specs.declared.fault.LoadFault.{LoadFault}
use Rattle.dp_plan.specs.declared.fault.LoadFault.TheVariants.{Line, NoMemory}
use Rattle.dp_plan.specs.declared.fault.LoadKind.{LoadKind}
use Rattle.dp_plan.specs.declared.fault.LoadKind.TheVariants.{Conf, Pattern, Plan}
use Rattle.dp_plan.specs.declared.fault.PlanKind.{PlanKind}
use Rattle.dp_plan.specs.declared.fault.PlanKind.TheVariants.{BadPriority, NoPrevious, BadLabel, BadApplication, LeftOut, TooDeep, NoExten, PriorityLimit, ShortLine}
use Rattle.dp_plan.specs.declared.note.NoteKind.{NoteKind}
use Rattle.dp_plan.specs.declared.note.NoteKind.TheVariants.{DoublePriority, DoubleLabel, UnknownContext, UnknownKey}

-- the number of a line's fault
abbrev pub plan_code : PlanKind → ℕ
plan_code BadPriority = 20
plan_code NoPrevious = 21
plan_code BadLabel = 22
plan_code BadApplication = 23
plan_code (LeftOut word) = 24
plan_code TooDeep = 25
plan_code NoExten = 26
plan_code PriorityLimit = 27
plan_code ShortLine = 28

-- the printed name of a line's fault
abbrev pub plan_name : PlanKind → List ℕ
plan_name BadPriority = codes "BadPriority"
plan_name NoPrevious = codes "NoPrevious"
plan_name BadLabel = codes "BadLabel"
plan_name BadApplication = codes "BadApplication"
plan_name (LeftOut word) = codes "LeftOut"
plan_name TooDeep = codes "TooDeep"
plan_name NoExten = codes "NoExten"
plan_name PriorityLimit = codes "PriorityLimit"
plan_name ShortLine = codes "ShortLine"

-- the number of the fault of a line, whatever its reason
abbrev pub load_code : LoadKind → ℕ
load_code (Conf kind) = line_code kind
load_code (Pattern fault) = name_code fault
load_code (Plan kind) = plan_code kind

-- the printed name of the fault of a line, whatever its reason
abbrev pub load_name : LoadKind → List ℕ
load_name (Conf kind) = line_name kind
load_name (Pattern fault) = fault_name fault
load_name (Plan kind) = plan_name kind

-- what is printed if a dialplan did not load
abbrev pub load_fault_text : LoadFault → List ℕ
load_fault_text (Line line kind) = load_name kind ++ codes " line " ++ decimal line
load_fault_text NoMemory = codes "out of memory"

-- the printed name of a note
abbrev pub note_name : NoteKind → List ℕ
note_name DoublePriority = codes "DoublePriority"
note_name DoubleLabel = codes "DoubleLabel"
note_name UnknownContext = codes "UnknownContext"
note_name UnknownKey = codes "UnknownKey"
