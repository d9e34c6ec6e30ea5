-- The faults of a dialplan apart from those of its text, and out-of-memory.
use Rattle.std.specs.Prelude.{ℕ, Option, Some, None, Result, Ok, Err}
use Rattle.dp_conf.specs.Lines.{LineFault}
use Rattle.dp_conf.specs.declared.fault.ConfFault.{ConfFault}
use Rattle.dp_conf.specs.declared.fault.ConfFault.TheVariants.{At, NoMemory as conf_no_memory}
use Rattle.dp_conf.specs.declared.first_fault.FaultyLine.{FaultyLine}
use Rattle.dp_pattern.specs.declared.fault.NameFault.{NameFault}
use Rattle.dp_plan.specs.declared.fault.PlanKind.{PlanKind}
use Rattle.dp_plan.specs.declared.fault.LoadFault.{LoadFault}
use Rattle.dp_plan.specs.declared.fault.LoadFault.TheVariants.{Line, NoMemory}
use Rattle.dp_plan.specs.declared.fault.LoadKind.{LoadKind}
use Rattle.dp_plan.specs.declared.fault.LoadKind.TheVariants.{Conf, Pattern, Plan}

-- a fault of the text, as a fault of the dialplan
abbrev pub fault_of_conf : ConfFault → LoadFault
fault_of_conf (At line kind) = Line line (Conf kind)
fault_of_conf conf_no_memory = NoMemory

-- a refused line of a context or of the global variables
abbrev pub plan_fault : ℕ → PlanKind → LoadFault
plan_fault line kind = Line line (Plan kind)

-- a refused line, as a fault of the dialplan
abbrev pub fault_of_line : FaultyLine LoadKind → LoadFault
fault_of_line fault = Line fault.line fault.kind

-- the reason why a dialplan is refused; out-of-memory has no reason
abbrev pub reason_of : LoadFault → Option LoadFault
reason_of (Line line kind) = Some (Line line kind)
reason_of NoMemory = None

-- a faulty line of the text, as a fault of the dialplan
abbrev pub text_fault : {X : Type 0} → Result X LineFault → Result X LoadFault
text_fault (Ok x) = Ok x
text_fault (Err fault) = Err (Line fault.line (Conf fault.kind))

-- the fault of a line, at its number
abbrev pub at_line : {X : Type 0} → ℕ → Result X PlanKind → Result X LoadFault
at_line line (Ok x) = Ok x
at_line line (Err kind) = Err (plan_fault line kind)

-- the fault of a name, at the number of its line
abbrev pub name_at_line : {X : Type 0} → ℕ → Result X NameFault → Result X LoadFault
name_at_line line (Ok x) = Ok x
name_at_line line (Err fault) = Err (Line line (Pattern fault))
