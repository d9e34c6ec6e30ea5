-- The first line of a text that the taker of its lines refuses.
use Rattle.std.specs.Prelude.{Bool, true, false, Option, Some, None, Result, Ok, Err}
use Rattle.dp_conf.specs.declared.first_fault.FaultyLine.{FaultyLine}
use Rattle.dp_conf.specs.declared.first_fault.TakeFault.{TakeFault}
use Rattle.dp_conf.specs.declared.first_fault.TakeFault.TheVariants.{Line, NoMemory}

-- the fault that is kept after one more line: the first one given
abbrev pub first_fault : {X K : Type 0} → Option (FaultyLine K) → Result X (TakeFault K) → Option (FaultyLine K)
first_fault (Some fault) taken = Some fault
first_fault None (Ok done) = None
first_fault None (Err (Line fault)) = Some fault
first_fault None (Err NoMemory) = None

-- memory ran out
abbrev pub wants_memory : {X K : Type 0} → Result X (TakeFault K) → Bool
wants_memory (Ok done) = false
wants_memory (Err (Line fault)) = false
wants_memory (Err NoMemory) = true

-- the reason why a line was not taken, given what a faulty line means for the whole; out-of-memory has no reason
abbrev pub line_reason : {K D : Type 0} → (FaultyLine K → D) → TakeFault K → Option D
line_reason in_whole (Line fault) = Some (in_whole fault)
line_reason in_whole NoMemory = None

-- the result, or the fault that was kept
abbrev pub made_or_fault : {X K D : Type 0} → (FaultyLine K → D) → Option (FaultyLine K) → X → Result X D
made_or_fault in_whole None made = Ok made
made_or_fault in_whole (Some fault) made = Err (in_whole fault)
