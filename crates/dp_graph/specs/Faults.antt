-- Why a picture could not be written.
use Rattle.std.specs.Prelude.{Bool, true, false, Result, Ok, Err}
use Rattle.dp_graph.specs.declared.fault.GraphFault.{GraphFault}
use Rattle.dp_graph.specs.declared.fault.GraphFault.TheVariants.{WriteFailed, NoMemory}

-- the fault is a failed write
abbrev pub is_write_fault : GraphFault → Bool
is_write_fault WriteFailed = true
is_write_fault NoMemory = false

-- a call ended with a failed write
abbrev pub is_write_failed : {X : Type 0} → Result X GraphFault → Bool
is_write_failed (Ok x) = false
is_write_failed (Err fault) = is_write_fault fault
