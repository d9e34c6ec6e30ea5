-- A step of the code: the result of the lines without a fault, and the faults of the others, line by line. The result of all lines of a
-- text is `faults_of` of AllFaults.
use Rattle.std.specs.Prelude.{List, [], ◌∷◌, ◌++◌, Result, Ok, Err}
use Rattle.dp_conf.specs.Lines.{LineOf}
use Rattle.dp_plan.specs.steps.Loading.{MadeOf, nothing_made, after_line}
use Rattle.dp_plan.specs.declared.fault.LoadFault.{LoadFault}

-- the result of the lines without a fault, and the faults of the others
pub record Sifted : Type 0 where
  pub made : MadeOf
  pub faults : List LoadFault

-- before the first line
abbrev pub nothing_sifted : Sifted
nothing_sifted = record { made = nothing_made; faults = [] }

-- with one more fault
abbrev pub with_fault : Sifted → LoadFault → Sifted
with_fault sifted fault = record sifted { faults = sifted.faults ++ fault ∷ [] }

-- with one more result, or with one more fault
abbrev pub sifted_by : Sifted → Result MadeOf LoadFault → Sifted
sifted_by sifted (Ok made) = record sifted { made = made }
sifted_by sifted (Err fault) = with_fault sifted fault

-- after one more line
abbrev pub after_any : Sifted → LineOf → Sifted
after_any sifted line = sifted_by sifted (after_line sifted.made line)
