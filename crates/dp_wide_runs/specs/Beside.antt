-- Runs of a script with facts that keep further state besides their stops, and write more above some of the lines.
use Rattle.std.specs.Prelude.{◌≡◌, ℕ, ◌++◌, List, [], Option, Some, None, Result, Ok, Err}
use Rattle.std.specs.Io.KnownBytes.{Appends}
use Rattle.dp_machine.specs.World.{World}
use Rattle.dp_machine.specs.declared.refusal.Refusal.{Refusal}
use Rattle.dp_machine.specs.declared.unknown.Unknown.{Unknown}
use Rattle.dp_commands.specs.Trace.{phase_at}
use Rattle.dp_commands.specs.Turns.{Taken, WritesTurnsBy}
use Rattle.dp_commands.specs.declared.fault.PbxFault.{PbxFault}
use Rattle.dp_commands.specs.declared.fault.PbxFault.TheVariants.{Coded, NoMemory}
use Rattle.dp_commands.specs.declared.script.Turn.{Turn}
use Rattle.dp_wide_runs.specs.Given.{taken_as, step_given, stepless_taken}
use Rattle.dp_wide_runs.specs.Runs.{WideRun}
use Rattle.dp_wide_runs.specs.Turns.{Stops, no_stops, pass_refusal, step_turn, stepless_turn, wide_status, wide_turn}
use Rattle.dp_wide_runs.specs.declared.wide_turn.WideTurn.{WideTurn}
use Rattle.dp_wide_runs.specs.declared.wide_turn.WideTurn.TheVariants.{Plain, Further, Pass}

-- the stops of a run and its world, without the further state
abbrev pub without : {P : Type 0} → (Stops × P) × World → Stops × World
without at = (at.0.0, at.1)

-- the further state after a turn, given the plain script's turn that the turn is taken as; without such a turn it stays
abbrev pub beside_after : {P : Type 0} → (P → World → Turn → P) → P → World → Option Turn → P
beside_after after beside w None = beside
beside_after after beside w (Some given) = after beside w given

-- the text above the lines of a turn that is taken as one of a plain script; empty if it is not taken as such a turn
abbrev pub above_given : {P : Type 0} → (P → World → Turn → List ℕ) → P → World → Option Turn → List ℕ
above_given above beside w None = []
above_given above beside w (Some given) = above beside w given

-- the text above the lines of a pass: that of a refusal if the pass is refused
abbrev pub above_pass : {P : Type 0} → (P → World → Turn → List ℕ) → (Refusal → List ℕ) → P → World → ℕ → Option Turn → List ℕ
above_pass above above_refusal beside w number None = above_refusal (pass_refusal (phase_at w number))
above_pass above above_refusal beside w number (Some given) = above beside w given

-- the text above the lines of a turn
abbrev pub above_by : {P : Type 0} → (P → World → Turn → List ℕ) → (Refusal → List ℕ) → P → World → WideTurn → Option Turn → List ℕ
above_by above above_refusal beside w (Plain turn) given = above_given above beside w given
above_by above above_refusal beside w (Further number) given = above_given above beside w given
above_by above above_refusal beside w (Pass number) given = above_pass above above_refusal beside w number given

-- the result of a turn with further state and more text above its lines, given the result without them
abbrev pub taken_with : {P : Type 0} → P → List ℕ → Taken (Stops × World) → Taken ((Stops × P) × World)
taken_with beside above taken =
    record { state = ((taken.state.0, beside), taken.state.1); lines = above ++ taken.lines; refused = taken.refused }

-- the result of a step, given what is unknown ahead of its channel
abbrev pub step_beside : {P : Type 0} → (P → World → Turn → P) → (P → World → Turn → List ℕ) → Stops × P → World → ℕ → Option Unknown
    → Taken ((Stops × P) × World)
step_beside after above at w number unknown =
    taken_with (beside_after after at.1 w (step_given number unknown)) (above_given above at.1 w (step_given number unknown))
    (step_turn at.0 w number unknown)

-- the result of a turn of a plain script that steps no channel, given the call that it shows
abbrev pub stepless_beside : {P : Type 0} → (P → World → Turn → P) → (P → World → Turn → List ℕ) → Stops × P → World → Turn → Option (ℕ × List ℕ)
    → Taken ((Stops × P) × World)
stepless_beside after above at w turn call =
    taken_with (beside_after after at.1 w (stepless_taken w turn call)) (above_given above at.1 w (stepless_taken w turn call))
    (stepless_turn at.0 w turn call)

-- the result of a turn: as without further state, with more text above its lines
abbrev pub turn_beside : {P : Type 0} → (P → World → Turn → P) → (P → World → Turn → List ℕ) → (Refusal → List ℕ)
    → (Stops × P) × World → WideTurn → Taken ((Stops × P) × World)
turn_beside after above above_refusal at turn =
    taken_with (beside_after after at.0.1 at.1 (taken_as (without at) turn))
    (above_by above above_refusal at.0.1 at.1 turn (taken_as (without at) turn)) (wide_turn (without at) turn)

-- the output and result of a run, given the run or the fault of its texts, and the first further state; after the last turn are the lines
-- that the further state has then
abbrev pub WritesBeside : {P : Type 0} → (P → World → Turn → P) → (P → World → Turn → List ℕ) → (Refusal → List ℕ) → (P → List ℕ) → P
    → Option (List ℕ) → Option (List ℕ) → Result WideRun PbxFault → Result ℕ PbxFault → Type 0
WritesBeside after above above_refusal last beside old new (Ok run) result =
    WritesTurnsBy (turn_beside after above above_refusal) (λ at. last at.0.1) (λ at. wide_status at.0.0) ((no_stops, beside), run.world) run.turns
    old new result
WritesBeside after above above_refusal last beside old new (Err fault) (Ok status) = ⊥
WritesBeside after above above_refusal last beside old new (Err fault) (Err (Coded code line)) =
    Appends old new [] × (fault ≡ Coded code line)
WritesBeside after above above_refusal last beside old new (Err fault) (Err NoMemory) = Appends old new []
