-- Verbose runs of a script with facts: above a turn that goes to the machine is the text of a verbose run of a plain script, and above a
-- pass that is refused is its explanation.
use Rattle.std.specs.Prelude.{◌≡◌, ℕ, List, [], Option, Result, Ok}
use Rattle.dp_machine.specs.World.{World}
use Rattle.dp_machine.specs.declared.refusal.Refusal.{Refusal}
use Rattle.dp_commands.specs.Turns.{refused_in, state_past}
use Rattle.dp_commands.specs.Verbose.{InForce, above_turn_by, in_force_after_by, indented_text}
use Rattle.dp_commands.specs.declared.fault.PbxFault.{PbxFault}
use Rattle.dp_commands.specs.declared.script.Turn.{Turn}
use Rattle.dp_wide_runs.specs.Beside.{WritesBeside}
use Rattle.dp_wide_runs.specs.Runs.{WideRun, at_first}
use Rattle.dp_wide_runs.specs.Turns.{wide_meanings, wide_status, wide_turn}

-- the dialplan in force after a turn of a plain script
abbrev pub in_force_after : InForce → World → Turn → InForce
in_force_after in_force w turn = in_force_after_by wide_meanings in_force w turn

-- the text above the line of a plain script's turn
abbrev pub above_turn : (Refusal → List ℕ) → InForce → World → Turn → List ℕ
above_turn explanation in_force w turn = above_turn_by wide_meanings explanation in_force w turn

-- the text above the line of a pass that is refused
abbrev pub above_refusal : (Refusal → List ℕ) → Refusal → List ℕ
above_refusal explanation refusal = indented_text (explanation refusal)

-- the output and result of a verbose run, given the run or the fault of its texts, and the dialplan that is first in force
abbrev pub WritesWideVerbose : (Refusal → List ℕ) → InForce → Option (List ℕ) → Option (List ℕ) → Result WideRun PbxFault → Result ℕ PbxFault → Type 0
WritesWideVerbose explanation in_force old new given result =
    WritesBeside in_force_after (above_turn explanation) (above_refusal explanation) (λ in_force. []) in_force old new given result

-- the status of a run: 1 if a turn was refused, else 4 if a step was not taken, else 0
abbrev pub wide_status_of : WideRun → ℕ
wide_status_of run = wide_status (state_past wide_turn (at_first run) run.turns).0 (refused_in wide_turn (at_first run) run.turns)

-- a verbose run ended with the status of the same run without verbose output
abbrev pub HasPlainStatus : Result WideRun PbxFault → ℕ → Type 0
HasPlainStatus given status = (run : WideRun) → given ≡ Ok run → status ≡ wide_status_of run
