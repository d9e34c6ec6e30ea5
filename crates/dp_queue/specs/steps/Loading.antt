-- A step of the code: the result of the lines so far, line by line. The result of all lines of a text is `queues_in` of File.
use Rattle.std.specs.Prelude.{ℕ, List, Option, Result, Ok, Err}
use Rattle.dp_conf.specs.Answers.{◌>>=◌}
use Rattle.dp_conf.specs.FirstFaults.{line_reason as whole_reason, made_or_fault}
use Rattle.dp_conf.specs.Lines.{LineOf, lines_of}
use Rattle.dp_conf.specs.declared.first_fault.FaultyLine.{FaultyLine}
use Rattle.dp_conf.specs.declared.first_fault.TakeFault.{TakeFault}
use Rattle.dp_conf.specs.declared.first_fault.TakeFault.TheVariants.{Line, NoMemory}
use Rattle.dp_queue.specs.Faults.{fault_of_line, text_fault}
use Rattle.dp_queue.specs.File.{FileOf, nothing_read, after_line, after_lines}
use Rattle.dp_queue.specs.declared.fault.QueueFault.{QueueFault}
use Rattle.dp_queue.specs.declared.fault.QueueKind.{QueueKind}

-- after one more line, if a line before it may have a fault, which is kept
abbrev pub after_one : Result FileOf QueueFault → LineOf → Result FileOf QueueFault
after_one state line = state >>= λ file. after_line file line

-- the reason why a line was not taken; out-of-memory has no reason
abbrev pub line_reason : TakeFault QueueKind → Option QueueFault
line_reason = whole_reason fault_of_line

-- if a line was refused the condition holds
abbrev pub AtRefusal : {X : Type 0} → Type 0 → Result X (TakeFault QueueKind) → Type 0
AtRefusal Holds (Ok x) = Unit {0}
AtRefusal Holds (Err (Line fault)) = Holds
AtRefusal Holds (Err NoMemory) = Unit {0}

-- the value read from a line, or the fault of the line
abbrev pub line_read : {X : Type 0} → ℕ → Result X QueueKind → Result X (TakeFault QueueKind)
line_read line (Ok x) = Ok x
line_read line (Err kind) = Err (Line (record { line = line; kind = kind }))

-- the result, or the fault that was kept
abbrev pub outcome : Option (FaultyLine QueueKind) → FileOf → Result FileOf QueueFault
outcome = made_or_fault fault_of_line

-- the result of all lines of a text: a fault of the text comes before those of queues
unfoldable pub file_of : List ℕ → Result FileOf QueueFault
file_of text = text_fault (lines_of text) >>= λ lines. after_lines nothing_read lines
