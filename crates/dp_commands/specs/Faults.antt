-- How faults of the parts become faults of the program, and which faults are failed writes or mean that memory ran out.
use Rattle.std.specs.Prelude.{Bool, true, false, Option, Some, None, Result, Ok, Err}
use Rattle.dp_conf.specs.declared.fault.ReadFault.{ReadFault}
use Rattle.dp_conf.specs.declared.fault.ReadFault.TheVariants.{ReadFailed as read_failed, TooLong as read_too_long, NoMemory as read_no_memory}
use Rattle.dp_plan.specs.declared.fault.LoadFault.{LoadFault}
use Rattle.dp_plan.specs.declared.fault.LoadFault.TheVariants.{Line as load_line, NoMemory as load_no_memory}
use Rattle.dp_plan.specs.declared.fault.LoadKind.{LoadKind}
use Rattle.dp_plan.specs.declared.fault.LoadKind.TheVariants.{Conf, Pattern, Plan as load_plan}
use Rattle.dp_queue.specs.declared.fault.QueueFault.{QueueFault}
use Rattle.dp_queue.specs.declared.fault.QueueFault.TheVariants.{Line as queue_line, NoMemory as queue_no_memory}
use Rattle.dp_queue.specs.declared.fault.QueueLoadKind.{QueueLoadKind}
use Rattle.dp_queue.specs.declared.fault.QueueLoadKind.TheVariants.{Conf as queue_conf, Queue as of_queue}
use Rattle.dp_commands.specs.declared.fault.Code.{Code}
use Rattle.dp_commands.specs.declared.fault.Code.TheVariants.{Line, Name, Plan, QueueLine, Queue, ReadFailed, TooLong, WriteFailed, Settle, BadScript, BadBreak}
use Rattle.dp_commands.specs.declared.fault.PbxFault.{PbxFault}
use Rattle.dp_commands.specs.declared.fault.PbxFault.TheVariants.{Coded, NoMemory}

-- the kind of a refused line of a dialplan
abbrev pub code_of_load : LoadKind → Code
code_of_load (Conf kind) = Line kind
code_of_load (Pattern fault) = Name fault
code_of_load (load_plan kind) = Plan kind

-- a fault of a dialplan as a fault of the program
abbrev pub fault_of_load : LoadFault → PbxFault
fault_of_load (load_line line kind) = Coded (code_of_load kind) (Some line)
fault_of_load load_no_memory = NoMemory

-- the kind of a refused line of a queue file
abbrev pub code_of_queue : QueueLoadKind → Code
code_of_queue (queue_conf kind) = QueueLine kind
code_of_queue (of_queue kind) = Queue kind

-- a fault of a queue file as a fault of the program
abbrev pub fault_of_queue : QueueFault → PbxFault
fault_of_queue (queue_line line kind) = Coded (code_of_queue kind) (Some line)
fault_of_queue queue_no_memory = NoMemory

-- a fault of a reader as a fault of the program
abbrev pub fault_of_read : ReadFault → PbxFault
fault_of_read read_failed = Coded ReadFailed None
fault_of_read read_too_long = Coded TooLong None
fault_of_read read_no_memory = NoMemory

-- the reason why the program ends; None if memory ran out
abbrev pub reason_of : PbxFault → Option PbxFault
reason_of (Coded code line) = Some (Coded code line)
reason_of NoMemory = None

-- whether the fault is a failed write
abbrev pub is_write_fault : PbxFault → Bool
is_write_fault (Coded (Line kind) line) = false
is_write_fault (Coded (Name fault) line) = false
is_write_fault (Coded (Plan kind) line) = false
is_write_fault (Coded (QueueLine kind) line) = false
is_write_fault (Coded (Queue kind) line) = false
is_write_fault (Coded ReadFailed line) = false
is_write_fault (Coded TooLong line) = false
is_write_fault (Coded WriteFailed line) = true
is_write_fault (Coded (Settle fault) line) = false
is_write_fault (Coded BadScript line) = false
is_write_fault (Coded BadBreak line) = false
is_write_fault NoMemory = false

-- whether a call ended with a failed write
abbrev pub is_write_failed : {X : Type 0} → Result X PbxFault → Bool
is_write_failed (Ok x) = false
is_write_failed (Err fault) = is_write_fault fault
