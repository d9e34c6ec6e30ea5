-- A step of the code: the result of the lines without a fault, and the faults of the others, line by line. The result of all lines of a
-- text is `faults_in` of AllFaults.
use Rattle.std.specs.Prelude.{List, [], ◌∷◌, ◌++◌, Result, Ok, Err}
use Rattle.dp_conf.specs.Lines.{LineOf}
use Rattle.dp_queue.specs.File.{FileOf, nothing_read, after_line}
use Rattle.dp_queue.specs.declared.fault.QueueFault.{QueueFault}

-- the result of the lines without a fault, and the faults of the others
pub record SiftedQueues : Type 0 where
  pub file : FileOf
  pub faults : List QueueFault

-- before the first line
abbrev pub nothing_sifted : SiftedQueues
nothing_sifted = record { file = nothing_read; faults = [] }

-- with one more fault
abbrev pub with_fault : SiftedQueues → QueueFault → SiftedQueues
with_fault sifted fault = record sifted { faults = sifted.faults ++ fault ∷ [] }

-- with one more result, or with one more fault
abbrev pub sifted_by : SiftedQueues → Result FileOf QueueFault → SiftedQueues
sifted_by sifted (Ok file) = record sifted { file = file }
sifted_by sifted (Err fault) = with_fault sifted fault

-- after one more line
abbrev pub after_any : SiftedQueues → LineOf → SiftedQueues
after_any sifted line = sifted_by sifted (after_line sifted.file line)
