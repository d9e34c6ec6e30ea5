-- The faults of a file of queues apart from those of its text, and out-of-memory.
use Rattle.std.specs.Prelude.{ℕ, Option, Some, None, Result, Ok, Err}
use Rattle.dp_conf.specs.Lines.{LineFault}
use Rattle.dp_conf.specs.declared.fault.ConfFault.{ConfFault}
use Rattle.dp_conf.specs.declared.fault.ConfFault.TheVariants.{At, NoMemory as conf_no_memory}
use Rattle.dp_conf.specs.declared.first_fault.FaultyLine.{FaultyLine}
use Rattle.dp_queue.specs.declared.fault.QueueKind.{QueueKind}
use Rattle.dp_queue.specs.declared.fault.QueueFault.{QueueFault}
use Rattle.dp_queue.specs.declared.fault.QueueFault.TheVariants.{Line, NoMemory}
use Rattle.dp_queue.specs.declared.fault.QueueLoadKind.TheVariants.{Conf, Queue}

-- a fault of the text, as a fault of the queues
abbrev pub fault_of_conf : ConfFault → QueueFault
fault_of_conf (At line kind) = Line line (Conf kind)
fault_of_conf conf_no_memory = NoMemory

-- a refused line of a queue, as a fault of the queues
abbrev pub fault_of_line : FaultyLine QueueKind → QueueFault
fault_of_line fault = Line fault.line (Queue fault.kind)

-- the reason why a file of queues is refused; out-of-memory has no reason
abbrev pub reason_of : QueueFault → Option QueueFault
reason_of (Line line kind) = Some (Line line kind)
reason_of NoMemory = None

-- a faulty line of the text, as a fault of the queues
abbrev pub text_fault : {X : Type 0} → Result X LineFault → Result X QueueFault
text_fault (Ok x) = Ok x
text_fault (Err fault) = Err (Line fault.line (Conf fault.kind))

-- the fault of a line of a queue, at its number
abbrev pub at_line : {X : Type 0} → ℕ → Result X QueueKind → Result X QueueFault
at_line line (Ok x) = Ok x
at_line line (Err kind) = Err (Line line (Queue kind))
