-- Runs that are given by their texts, and their status.
use Rattle.std.proofs.Common.{◌≡◌, ℕ, Bool, true, false, List, Option, Result, Ok, Err, IfOk, refl, subst, sym, ◌∙◌, if◌then◌else◌}
use Rattle.dp_commands.specs.Turns.{refused_in, state_past}
use Rattle.dp_commands.specs.declared.fault.PbxFault.{PbxFault}
use Rattle.dp_wide_runs.specs.Given.{AreAllGiven}
use Rattle.dp_wide_runs.specs.Runs.{IsPlain, WideRun, WritesWide, at_first}
use Rattle.dp_wide_runs.specs.Turns.{Stops, wide_status, wide_turn}
use Rattle.dp_wide_runs.proofs.GivenLemmas.{all_given}

-- with status 0 no turn was refused, and every step was taken
zero_refused : (stops : Stops) (refused : Bool) → wide_status stops refused ≡ 0 → refused ≡ false
zero_refused stops false zero = refl
zero_refused stops true zero = absurd cc

abbrev answer_by : Bool → ℕ
answer_by has = if has then 4 else 0

stopped_by : (has : Bool) → answer_by has ≡ 0 → has ≡ false
stopped_by false zero = refl
stopped_by true zero = absurd cc

zero_stopped : (stops : Stops) (refused : Bool) → wide_status stops refused ≡ 0 → stops.has_stopped ≡ false
zero_stopped stops false zero = stopped_by stops.has_stopped zero
zero_stopped stops true zero = absurd cc

-- a run that ended with status 0
pub plain_run : (run : WideRun) (status : ℕ)
    → status ≡ wide_status (state_past wide_turn (at_first run) run.turns).0 (refused_in wide_turn (at_first run) run.turns)
    → status ≡ 0 → AreAllGiven (at_first run) run.turns
plain_run run status told zero =
    let all : wide_status (state_past wide_turn (at_first run) run.turns).0 (refused_in wide_turn (at_first run) run.turns) ≡ 0 = sym told ∙ zero in
    all_given (at_first run) run.turns refl
    (zero_refused (state_past wide_turn (at_first run) run.turns).0 (refused_in wide_turn (at_first run) run.turns) all)
    (zero_stopped (state_past wide_turn (at_first run) run.turns).0 (refused_in wide_turn (at_first run) run.turns) all)

plain_when : (given : Result WideRun PbxFault) (old new : Option (List ℕ)) (status : ℕ) → WritesWide old new given (Ok status) → IsPlain given status
plain_when (Ok ran) old new status written run is zero =
    let same : ran ≡ run = cc in
    subst (λ (r : WideRun). AreAllGiven (at_first r) r.turns) same (plain_run ran status written.1 zero)
plain_when (Err fault) old new status written run is zero = absurd written

pub plain_ending : (given : Result WideRun PbxFault) (old new : Option (List ℕ)) (result : Result ℕ PbxFault) → WritesWide old new given result
    → IfOk result (IsPlain given)
plain_ending given old new (Ok status) written = plain_when given old new status written
plain_ending given old new (Err fault) written = tt
