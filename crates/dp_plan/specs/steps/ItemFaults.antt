-- A step of the code: the reason why a line has no item.
use Rattle.std.specs.Prelude.{Option, Result, Ok, Err}
use Rattle.dp_conf.specs.FirstFaults.{line_reason}
use Rattle.dp_conf.specs.declared.first_fault.TakeFault.{TakeFault}
use Rattle.dp_conf.specs.declared.first_fault.TakeFault.TheVariants.{Line, NoMemory}
use Rattle.dp_plan.specs.Faults.{fault_of_line}
use Rattle.dp_plan.specs.declared.fault.LoadFault.{LoadFault}
use Rattle.dp_plan.specs.declared.fault.LoadKind.{LoadKind}

-- the reason why a line has no item; out-of-memory has no reason
abbrev pub item_reason : TakeFault LoadKind → Option LoadFault
item_reason = line_reason fault_of_line

-- if a line was refused the condition holds
abbrev pub AtRefusal : {X : Type 0} → Type 0 → Result X (TakeFault LoadKind) → Type 0
AtRefusal Holds (Ok x) = Unit {0}
AtRefusal Holds (Err (Line fault)) = Holds
AtRefusal Holds (Err NoMemory) = Unit {0}
