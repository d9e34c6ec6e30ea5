-- The numbers of the program's faults, and their printed names.
use Rattle.std.specs.Prelude.{ℕ, List, ◌++◌, Some, None, codes, decimal}
use Rattle.dp_board.specs.Codes.{fault_code as settle_code, fault_name as settle_name}
use Rattle.dp_conf.specs.Codes.{line_code, line_name, read_name, write_code, write_name}
use Rattle.dp_conf.specs.declared.fault.ReadFault.TheVariants.{ReadFailed as read_failed, TooLong as read_too_long}
use Rattle.dp_pattern.specs.Codes.{name_code, fault_name}
use Rattle.dp_plan.specs.Codes.{plan_code, plan_name}
use Rattle.dp_queue.specs.Codes.{queue_code, queue_name}
use Rattle.dp_commands.specs.declared.fault.Code.{Code}
use Rattle.dp_commands.specs.declared.fault.Code.TheVariants.{Line, Name, Plan, QueueLine, Queue, ReadFailed, TooLong, WriteFailed, Settle, BadScript, BadBreak}
use Rattle.dp_commands.specs.declared.fault.PbxFault.{PbxFault}
use Rattle.dp_commands.specs.declared.fault.PbxFault.TheVariants.{Coded, NoMemory}

-- the number of a fault
abbrev pub code_number : Code → ℕ
code_number (Line kind) = line_code kind
code_number (Name fault) = name_code fault
code_number (Plan kind) = plan_code kind
code_number (QueueLine kind) = line_code kind
code_number (Queue kind) = queue_code kind
code_number ReadFailed = 7
code_number TooLong = 8
code_number WriteFailed = write_code
code_number (Settle fault) = settle_code fault
code_number BadScript = 70
code_number BadBreak = 71

-- the printed name of a fault
abbrev pub code_name : Code → List ℕ
code_name (Line kind) = line_name kind
code_name (Name fault) = fault_name fault
code_name (Plan kind) = plan_name kind
code_name (QueueLine kind) = line_name kind
code_name (Queue kind) = queue_name kind
code_name ReadFailed = read_name read_failed
code_name TooLong = read_name read_too_long
code_name WriteFailed = write_name
code_name (Settle fault) = settle_name fault
code_name BadScript = codes "BadScript"
code_name BadBreak = codes "BadBreak"

-- the printed form of a code, `fault CODE NAME`
abbrev pub code_text : Code → List ℕ
code_text code = codes "fault " ++ decimal (code_number code) ++ codes " " ++ code_name code

-- the line that the program prints for a fault
abbrev pub fault_line : PbxFault → List ℕ
fault_line (Coded code (Some line)) = code_text code ++ codes " line " ++ decimal line ++ codes "\n"
fault_line (Coded code None) = code_text code ++ codes "\n"
fault_line NoMemory = codes "fault out of memory\n"
