-- All faults in a file of queues, including those of lines after the first faulty one.
use Rattle.std.specs.Prelude.{ℕ, List, [], ◌∷◌, ◌++◌, Result, Ok, Err}
use Rattle.dp_conf.specs.Answers.{◌>>=◌}
use Rattle.dp_conf.specs.Lines.{LineOf, lines_of}
use Rattle.dp_queue.specs.Faults.{text_fault}
use Rattle.dp_queue.specs.File.{FileOf, nothing_read, after_line}
use Rattle.dp_queue.specs.declared.fault.QueueFault.{QueueFault}

-- the result of a line; a line with a fault changes nothing
abbrev pub left_by : FileOf → Result FileOf QueueFault → FileOf
left_by file (Ok next) = next
left_by file (Err fault) = file

-- the fault of a line, if it has one
abbrev pub fault_in : Result FileOf QueueFault → List QueueFault
fault_in (Ok next) = []
fault_in (Err fault) = fault ∷ []

-- a line, unless it has a fault
abbrev pub line_in : LineOf → Result FileOf QueueFault → List LineOf
line_in line (Ok next) = line ∷ []
line_in line (Err fault) = []

-- the faults of lines, in the order of the lines. Each line is read after the lines before it that have no fault.
abbrev pub faults_after : FileOf → List LineOf → List QueueFault
faults_after file [] = []
faults_after file (line ∷ lines) =
    fault_in (after_line file line) ++ faults_after (left_by file (after_line file line)) lines

-- the lines without a fault, if each is read this way
abbrev pub faultless_after : FileOf → List LineOf → List LineOf
faultless_after file [] = []
faultless_after file (line ∷ lines) =
    line_in line (after_line file line) ++ faultless_after (left_by file (after_line file line)) lines

-- the result of those lines
abbrev pub left_after : FileOf → List LineOf → FileOf
left_after file [] = file
left_after file (line ∷ lines) = left_after (left_by file (after_line file line)) lines

-- all faults in the lines of a text, or the first fault of the text itself, which ends the reading
unfoldable pub faults_in : List ℕ → Result (List QueueFault) QueueFault
faults_in text = text_fault (lines_of text) >>= λ lines. Ok (faults_after nothing_read lines)
