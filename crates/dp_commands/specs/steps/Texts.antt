-- What is known of the output of a run's turns from the run's texts.
use Rattle.std.specs.Prelude.{◌≡◌, ℕ, Bool, List, [], Option, Result, Ok, Err}
use Rattle.std.specs.Io.KnownBytes.{Appends}
use Rattle.dp_machine.specs.World.{World}
use Rattle.dp_commands.specs.Run.{Run}
use Rattle.dp_commands.specs.Turns.{Taken, WritesTurnsBy}
use Rattle.dp_commands.specs.declared.fault.PbxFault.{PbxFault}
use Rattle.dp_commands.specs.declared.fault.PbxFault.TheVariants.{Coded, NoMemory}
use Rattle.dp_commands.specs.declared.script.Turn.{Turn}

-- the output and result of taking the turns of a run, given the run or the fault of its texts, and the state besides its world before the
-- first turn
abbrev pub WritesRun : {P : Type 0} → (P × World → Turn → Taken (P × World)) → (P × World → List ℕ) → (P × World → Bool → ℕ) → P → Option (List ℕ) → Option (List ℕ) → Result Run PbxFault → Result ℕ PbxFault → Type 0
WritesRun step last status p old new (Ok run) result = WritesTurnsBy step last status (p, run.world) run.turns old new result
WritesRun step last status p old new (Err fault) (Ok answer) = ⊥
WritesRun step last status p old new (Err fault) (Err (Coded code line)) = Appends old new [] × (fault ≡ Coded code line)
WritesRun step last status p old new (Err fault) (Err NoMemory) = Appends old new []
