-- Runs that keep further state besides their stops: without that state they are runs that keep no further state.
use Rattle.std.proofs.Common.{◌≡◌, ℕ, ◌++◌, ◌||◌, Bool, List, [], ◌∷◌, Option, Some, None, Result, Ok, Err, IfOk, take, refl, ap, subst, ◌∙◌, arith}
use Rattle.std.specs.Io.KnownBytes.{Appends}
use Rattle.std.proofs.KnownBytes.{Appends-nil}
use Rattle.dp_conf.specs.Answers.{Refuses, ◌>>=◌}
use Rattle.dp_conf.specs.Fronts.{AppendsFront}
use Rattle.dp_plan.specs.Loaded.{plan_and_notes}
use Rattle.dp_machine.specs.World.{World}
use Rattle.dp_machine.specs.declared.refusal.Refusal.{Refusal}
use Rattle.dp_commands.specs.Faults.{reason_of}
use Rattle.dp_commands.specs.Run.{files_of, plan_fault}
use Rattle.dp_commands.specs.Script.{turns_of}
use Rattle.dp_commands.specs.Turns.{Taken, WritesTurnsBy, lines_of, refused_in, state_past}
use Rattle.dp_commands.specs.declared.fault.PbxFault.{PbxFault}
use Rattle.dp_commands.specs.declared.fault.PbxFault.TheVariants.{Coded, NoMemory}
use Rattle.dp_commands.specs.declared.script.ScriptLine.{ScriptLine}
use Rattle.dp_commands.specs.declared.script.Turn.{Turn}
use Rattle.dp_wide_runs.specs.Beside.{WritesBeside, above_by, turn_beside, without}
use Rattle.dp_wide_runs.specs.Given.{taken_as}
use Rattle.dp_wide_runs.specs.Runs.{IsPlain, WideRun, WritesWide, at_first, contents_of, run_of, run_on}
use Rattle.dp_wide_runs.specs.Turns.{Stops, no_stops, wide_status, wide_turn}
use Rattle.dp_wide_runs.specs.Verbose.{HasPlainStatus, wide_status_of}
use Rattle.dp_wide_runs.specs.declared.wide_turn.WideTurn.{WideTurn}
use Rattle.dp_wide_runs.specs.declared.wide_turn.WideTurn.TheVariants.{Plain, Further, Pass}
use Rattle.dp_wide_runs.proofs.RunsLemmas.{plain_run}

module _ {P : Type 0} (after : P → World → Turn → P) (above : P → World → Turn → List ℕ) (above_refusal : Refusal → List ℕ) where
  -- without the further state, the turns lead to the same
  pub state_past-beside : (at : (Stops × P) × World) (turns : List WideTurn)
      → without (state_past (turn_beside after above above_refusal) at turns) ≡ state_past wide_turn (without at) turns
  state_past-beside at [] = refl
  state_past-beside at (turn ∷ turns) = state_past-beside (turn_beside after above above_refusal at turn).state turns

  -- and a turn is refused if it is refused without it
  refused_in-beside : (at : (Stops × P) × World) (turns : List WideTurn)
      → refused_in (turn_beside after above above_refusal) at turns ≡ refused_in wide_turn (without at) turns
  refused_in-beside at [] = refl
  refused_in-beside at (turn ∷ turns) =
      ap (λ r. (wide_turn (without at) turn).refused || r) (refused_in-beside (turn_beside after above above_refusal at turn).state turns)

  -- so the status is that of a run without it
  status_beside : (beside : P) (run : WideRun)
      → wide_status (state_past (turn_beside after above above_refusal) ((no_stops, beside), run.world) run.turns).0.0
      (refused_in (turn_beside after above above_refusal) ((no_stops, beside), run.world) run.turns) ≡ wide_status_of run
  status_beside beside run =
      ap (λ (at : Stops × World). wide_status at.0 (refused_in (turn_beside after above above_refusal) ((no_stops, beside), run.world) run.turns))
      (state_past-beside ((no_stops, beside), run.world) run.turns)
      ∙ ap (λ (refused : Bool). wide_status (state_past wide_turn (at_first run) run.turns).0 refused) (refused_in-beside ((no_stops, beside), run.world) run.turns)

  status_when : (last : P → List ℕ) (beside : P) (given : Result WideRun PbxFault) (old new : Option (List ℕ)) (status : ℕ)
      → WritesBeside after above above_refusal last beside old new given (Ok status) → HasPlainStatus given status
  status_when last beside (Ok ran) old new status written run is =
      let same : ran ≡ run = cc in
      written.1 ∙ (status_beside beside ran ∙ ap wide_status_of same)
  status_when last beside (Err fault) old new status written run is = absurd written

  pub same_status : (last : P → List ℕ) (beside : P) (given : Result WideRun PbxFault) (old new : Option (List ℕ)) (result : Result ℕ PbxFault)
      → WritesBeside after above above_refusal last beside old new given result → IfOk result (HasPlainStatus given)
  same_status last beside given old new (Ok status) written = status_when last beside given old new status written
  same_status last beside given old new (Err fault) written = tt

  -- the turns of the machine and the lines of a run that has begun
  pub begun_beside : (last : P → List ℕ) (beside : P) (runner : Stops × P) (machine world : World) (kept lines : List (ScriptLine WideTurn)) (old new : Option (List ℕ)) (result : Result ℕ PbxFault)
      → runner ≡ (no_stops, beside) → machine ≡ world → kept ≡ lines
      → WritesTurnsBy (turn_beside after above above_refusal) (λ at. last at.0.1) (λ at. wide_status at.0.0) (runner, machine) (turns_of kept) old new result
      → WritesBeside after above above_refusal last beside old new (Ok (run_on world (turns_of lines))) result
  begun_beside last beside runner machine world kept lines old new result first opens tells written =
      let Writes : Stops × P → World → List (ScriptLine WideTurn) → Type 0 = λ at w held.
      WritesTurnsBy (turn_beside after above above_refusal) (λ at. last at.0.1) (λ at. wide_status at.0.0) (at, w) (turns_of held) old new result in
      subst (λ (at : Stops × P). Writes at world lines) first
      (subst (λ (w : World). Writes runner w lines) opens (subst (λ (held : List (ScriptLine WideTurn)). Writes runner machine held) tells written))

-- if nothing is written above, the lines are those of a run without further state
module _ {P : Type 0} where
  nothing_above : (beside : P) (w : World) (turn : WideTurn) (given : Option Turn) → above_by (λ p v t. []) (λ r. []) beside w turn given ≡ []
  nothing_above beside w (Plain turn) None = refl
  nothing_above beside w (Plain turn) (Some given) = refl
  nothing_above beside w (Further channel) None = refl
  nothing_above beside w (Further channel) (Some given) = refl
  nothing_above beside w (Pass channel) None = refl
  nothing_above beside w (Pass channel) (Some given) = refl

  abbrev plainly : (Stops × P) × World → WideTurn → Taken ((Stops × P) × World)
  plainly at turn = turn_beside (λ p v t. p) (λ p v t. []) (λ r. []) at turn

  lines_of-plainly : (at : (Stops × P) × World) (turns : List WideTurn) → lines_of plainly at turns ≡ lines_of wide_turn (without at) turns
  lines_of-plainly at [] = refl
  lines_of-plainly at (turn ∷ turns) =
      ap (λ (bytes : List ℕ). (bytes ++ (wide_turn (without at) turn).lines) ++ lines_of plainly (plainly at turn).state turns)
      (nothing_above at.0.1 at.1 turn (taken_as (without at) turn))
      ∙ ap (λ (bytes : List ℕ). (wide_turn (without at) turn).lines ++ bytes) (lines_of-plainly (plainly at turn).state turns)

  pub writes_plainly : (beside : P) (given : Result WideRun PbxFault) (old new : Option (List ℕ)) (result : Result ℕ PbxFault)
      → WritesBeside (λ p v t. p) (λ p v t. []) (λ r. []) (λ p. []) beside old new given result → WritesWide old new given result
  writes_plainly beside (Ok run) old new (Ok status) written = (
    subst (λ (bytes : List ℕ). Appends old new (bytes ++ [])) (lines_of-plainly ((no_stops, beside), run.world) run.turns) written.0,
    written.1 ∙ status_beside (λ p v t. p) (λ p v t. []) (λ r. []) beside run,
  )
  writes_plainly beside (Ok run) old new (Err (Coded code line)) written = (
    subst (λ (bytes : List ℕ). AppendsFront old new (bytes ++ [])) (lines_of-plainly ((no_stops, beside), run.world) run.turns) written.0,
    written.1,
    written.2,
  )
  writes_plainly beside (Ok run) old new (Err NoMemory) written =
      record {
        count = written.count;
        within = written.within;
        written = subst (λ (bytes : List ℕ). Appends old new bytes) (lines_of-plainly ((no_stops, beside), run.world) (take written.count run.turns)) written.written;
      }
  writes_plainly beside (Err fault) old new (Ok status) written = written
  writes_plainly beside (Err fault) old new (Err (Coded code line)) written = written
  writes_plainly beside (Err fault) old new (Err NoMemory) written = written

-- a run that has the status of a plain run, and ended with 0
plain_when : (given : Result WideRun PbxFault) (status : ℕ) → HasPlainStatus given status → IsPlain given status
plain_when given status has run is zero = plain_run run status (has run is) zero

pub plain_by_status : (given : Result WideRun PbxFault) (result : Result ℕ PbxFault) → IfOk result (HasPlainStatus given) → IfOk result (IsPlain given)
plain_by_status given (Ok status) has = plain_when given status has
plain_by_status given (Err fault) has = tt

-- a refused result stays refused, whatever comes after it
pub next_refused : {X Y : Type 0} (fault : PbxFault) (read : Result X PbxFault) (next : X → Result Y PbxFault) → Refuses (reason_of fault) read
    → Refuses (reason_of fault) (read >>= next)
next_refused (Coded code line) (Ok x) next refused = absurd cc
next_refused (Coded code line) (Err given) next refused = let same : given ≡ Coded code line = cc in ap Err same
next_refused NoMemory read next refused = tt

-- a run whose dialplan is refused
pub run_refused : (plan : List ℕ) (queues second_plan : Option (List ℕ)) (script : List ℕ) (fault : PbxFault)
    → Refuses (reason_of fault) (plan_fault (plan_and_notes plan)) → Refuses (reason_of fault) (run_of plan queues second_plan script)
unfolding run_of
run_refused plan queues second_plan script fault refused =
    next_refused fault (contents_of plan queues second_plan script) _ (next_refused fault (files_of plan queues) _ (next_refused fault (plan_fault (plan_and_notes plan)) _ refused))

module _ {P : Type 0} (after : P → World → Turn → P) (above : P → World → Turn → List ℕ) (above_refusal : Refusal → List ℕ) (last : P → List ℕ) (beside : P) (old : Option (List ℕ)) where
  refused_beside : (given : Result WideRun PbxFault) (fault : PbxFault) → Refuses (reason_of fault) given
      → WritesBeside after above above_refusal last beside old old given (Err fault)
  refused_beside (Ok run) (Coded code line) refused = absurd cc
  refused_beside (Err given) (Coded code line) refused = (Appends-nil old, cc)
  refused_beside (Ok run) NoMemory refused = record { count = 0; within = omega arith; written = Appends-nil old }
  refused_beside (Err given) NoMemory refused = Appends-nil old

  -- nothing is written if the dialplan of a run is refused
  pub plan_refused : (plan : List ℕ) (queues second_plan : Option (List ℕ)) (script : List ℕ) (fault : PbxFault)
      → Refuses (reason_of fault) (plan_fault (plan_and_notes plan)) → WritesBeside after above above_refusal last beside old old (run_of plan queues second_plan script) (Err fault)
  plan_refused plan queues second_plan script fault refused =
      refused_beside (run_of plan queues second_plan script) fault (run_refused plan queues second_plan script fault refused)
