-- Turns that are taken one after another, and the part of their lines that is written.
use Rattle.std.specs.Prelude.{◌≡◌, ℕ, ◌≤◌, ◌++◌, ◌||◌, Bool, false, List, [], ◌∷◌, length, take, fold, Option, None, Result, Ok, Err}
use Rattle.std.specs.Io.KnownBytes.{Appends}
use Rattle.dp_conf.specs.Fronts.{AppendsFront}
use Rattle.dp_commands.specs.Run.{status_by}
use Rattle.dp_commands.specs.declared.fault.Code.TheVariants.{WriteFailed}
use Rattle.dp_commands.specs.declared.fault.PbxFault.{PbxFault}
use Rattle.dp_commands.specs.declared.fault.PbxFault.TheVariants.{Coded, NoMemory}

-- how a turn changes a state, its lines, and whether it is refused
pub record Taken (S : Type 0) : Type 0 where
  pub state : S
  pub lines : List ℕ
  pub refused : Bool

-- the state after the turns
abbrev pub state_past : {S U : Type 0} → (S → U → Taken S) → S → List U → S
state_past step s turns = fold (λ at turn. (step at turn).state) s turns

-- the lines of a list of turns, starting from a state
abbrev pub lines_of : {S U : Type 0} → (S → U → Taken S) → S → List U → List ℕ
lines_of step s [] = []
lines_of step s (turn ∷ turns) = (step s turn).lines ++ lines_of step (step s turn).state turns

-- whether a turn is refused
abbrev pub refused_in : {S U : Type 0} → (S → U → Taken S) → S → List U → Bool
refused_in step s [] = false
refused_in step s (turn ∷ turns) = (step s turn).refused || refused_in step (step s turn).state turns

-- the lines of a list of turns, and the lines after the last of them
abbrev pub text_of : {S U : Type 0} → (S → U → Taken S) → (S → List ℕ) → S → List U → List ℕ
text_of step last s turns = lines_of step s turns ++ last (state_past step s turns)

-- the lines of the first turns, as many as `count`, were written, and nothing else
pub record WritesFirst {S U : Type 0} (step : S → U → Taken S) (s : S) (turns : List U) (old new : Option (List ℕ)) : Type 0 where
  pub count : ℕ
  pub within : count ≤ length turns
  pub written : Appends old new (lines_of step s (take count turns))

-- the output and result of taking turns, with the lines after the last of them; the status depends on the last state and on whether a turn
-- was refused
abbrev pub WritesTurnsBy : {S U : Type 0} → (S → U → Taken S) → (S → List ℕ) → (S → Bool → ℕ) → S → List U → Option (List ℕ) → Option (List ℕ) → Result ℕ PbxFault → Type 0
WritesTurnsBy step last status s turns old new (Ok answer) =
    Appends old new (text_of step last s turns) × (answer ≡ status (state_past step s turns) (refused_in step s turns))
WritesTurnsBy step last status s turns old new (Err (Coded code line)) =
    AppendsFront old new (text_of step last s turns) × (code ≡ WriteFailed) × (line ≡ None)
WritesTurnsBy step last status s turns old new (Err NoMemory) = WritesFirst step s turns old new

-- the output and result of taking turns if the status is 1 for a refused turn
abbrev pub WritesTurns : {S U : Type 0} → (S → U → Taken S) → (S → List ℕ) → S → List U → Option (List ℕ) → Option (List ℕ) → Result ℕ PbxFault → Type 0
WritesTurns step last s turns old new result = WritesTurnsBy step last (λ at refused. status_by refused) s turns old new result
