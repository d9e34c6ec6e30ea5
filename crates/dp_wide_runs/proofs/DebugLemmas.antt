-- Debugged runs: what is known of their output from the run whose turns they take, and their status.
use Rattle.std.proofs.Common.{◌≡◌, ℕ, List, Option, Result, Ok, Err, IfOk, ap, subst, sym, arith}
use Rattle.std.proofs.KnownBytes.{Appends-nil}
use Rattle.dp_conf.specs.Answers.{Refuses}
use Rattle.dp_plan.specs.Loaded.{plan_and_notes}
use Rattle.dp_machine.specs.World.{World}
use Rattle.dp_machine.specs.declared.refusal.Refusal.{Refusal}
use Rattle.dp_debug.specs.declared.breaks.Break.{Break}
use Rattle.dp_commands.specs.Debug.{Watch}
use Rattle.dp_commands.specs.Faults.{reason_of}
use Rattle.dp_commands.specs.Run.{plan_fault}
use Rattle.dp_commands.specs.declared.fault.PbxFault.{PbxFault}
use Rattle.dp_commands.specs.declared.fault.PbxFault.TheVariants.{Coded, NoMemory}
use Rattle.dp_commands.specs.declared.script.Turn.{Turn}
use Rattle.dp_wide_runs.specs.Beside.{WritesBeside}
use Rattle.dp_wide_runs.specs.Debugging.{HasSameStatus, WideDebug, WritesDebugged, debug_with, watched_above, watched_after, watched_last, watching, without_shows}
use Rattle.dp_wide_runs.specs.Runs.{WideRun, run_of, run_on}
use Rattle.dp_wide_runs.specs.declared.wide_turn.WideTurn.{WideTurn}
use Rattle.dp_wide_runs.proofs.BesideLemmas.{next_refused, run_refused, same_status}

module _ {P : Type 0} (after : P → World → Turn → P) (above : P → World → Turn → List ℕ) (above_refusal : Refusal → List ℕ) (beside : P) where
  abbrev Writes : Watch × P → Option (List ℕ) → Option (List ℕ) → WideRun → Result ℕ PbxFault → Type 0
  Writes at old new run result =
      WritesBeside (watched_after after) (watched_above above) above_refusal watched_last at old new (Ok run) result

  -- the turns that show no value are taken, beginning with a watch that has seen no event
  pub debugged_run : (held : Break) (given : Result WideRun PbxFault) (machine world : World) (kept turns : List WideTurn) (at : Watch × P)
      (old new : Option (List ℕ)) (result : Result ℕ PbxFault)
      → given ≡ Ok (run_on world turns) → machine ≡ world → kept ≡ without_shows turns → at ≡ (watching held, beside)
      → Writes at old new (run_on machine kept) result
      → WritesDebugged after above above_refusal beside old new (debug_with held given) result
  debugged_run held given machine world kept turns at old new result reads opens skips begins written =
      subst (λ (read : Result WideRun PbxFault). WritesDebugged after above above_refusal beside old new (debug_with held read) result) (sym reads)
      (subst (λ (from : Watch × P). Writes from old new (run_on world (without_shows turns)) result) begins
      (subst (λ (w : World). Writes at old new (run_on w (without_shows turns)) result) opens
      (subst (λ (taken : List WideTurn). Writes at old new (run_on machine taken) result) skips written)))

  status_when : (given : Result WideDebug PbxFault) (old new : Option (List ℕ)) (status : ℕ)
      → WritesDebugged after above above_refusal beside old new given (Ok status) → HasSameStatus given status
  status_when (Ok debug) old new status written other is =
      same_status (watched_after after) (watched_above above) above_refusal watched_last (watching debug.held, beside) (Ok debug.run) old new (Ok status) written
      other.run (ap (λ (read : Result WideDebug PbxFault). run_in read) is)
    where
      run_in : Result WideDebug PbxFault → Result WideRun PbxFault
      run_in (Ok read) = Ok read.run
      run_in (Err fault) = Err fault
  status_when (Err fault) old new status written other is = absurd written

  -- a debugged run has the status of the run without a break
  pub debugged_status : (given : Result WideDebug PbxFault) (old new : Option (List ℕ)) (result : Result ℕ PbxFault)
      → WritesDebugged after above above_refusal beside old new given result → IfOk result (HasSameStatus given)
  debugged_status given old new (Ok status) written = status_when given old new status written
  debugged_status given old new (Err fault) written = tt

-- nothing is written if the texts of a debugged run are refused
module _ {P : Type 0} (after : P → World → Turn → P) (above : P → World → Turn → List ℕ) (above_refusal : Refusal → List ℕ) (beside : P) (old : Option (List ℕ)) where
  pub refused_debug : (given : Result WideDebug PbxFault) (fault : PbxFault) → Refuses (reason_of fault) given
      → WritesDebugged after above above_refusal beside old old given (Err fault)
  refused_debug (Ok debug) (Coded code line) refused = absurd cc
  refused_debug (Err given) (Coded code line) refused = (Appends-nil old, cc)
  refused_debug (Ok debug) NoMemory refused = record { count = 0; within = omega arith; written = Appends-nil old }
  refused_debug (Err given) NoMemory refused = Appends-nil old

-- a debugged run whose dialplan is refused
pub debug_refused : (held : Break) (plan : List ℕ) (queues second_plan : Option (List ℕ)) (script : List ℕ) (fault : PbxFault)
    → Refuses (reason_of fault) (plan_fault (plan_and_notes plan)) → Refuses (reason_of fault) (debug_with held (run_of plan queues second_plan script))
debug_refused held plan queues second_plan script fault refused =
    next_refused fault (run_of plan queues second_plan script) _ (run_refused plan queues second_plan script fault refused)
