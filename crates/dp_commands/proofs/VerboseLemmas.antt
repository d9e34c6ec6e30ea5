-- Verbose runs that are given by their texts.
use Rattle.std.proofs.Common.{◌≡◌, ℕ, ◌||◌, List, [], ◌∷◌, Option, Result, Ok, Err, IfOk, refl, ap, ◌∙◌, arith}
use Rattle.std.proofs.KnownBytes.{Appends-nil}
use Rattle.dp_conf.specs.Answers.{Refuses, ◌>>=◌}
use Rattle.dp_debug.specs.declared.breaks.Break.{Break}
use Rattle.dp_machine.specs.Events.{event_row, is_refused}
use Rattle.dp_machine.specs.Replay.{final_world}
use Rattle.dp_machine.specs.World.{World}
use Rattle.dp_machine.specs.declared.refusal.Refusal.{Refusal}
use Rattle.dp_plan.specs.Loaded.{plan_and_notes}
use Rattle.dp_queue.specs.Changes.{one_more}
use Rattle.dp_table.specs.Standard.{standard_meanings}
use Rattle.dp_commands.specs.Debug.{DebugRun, debug_on, debug_turn}
use Rattle.dp_commands.specs.Faults.{reason_of}
use Rattle.dp_commands.specs.Run.{Run, contents_of, files_of, plan_fault, run_of, status_by, status_of}
use Rattle.dp_commands.specs.Trace.{after_turn, any_refused}
use Rattle.dp_commands.specs.Turns.{refused_in}
use Rattle.dp_commands.specs.Verbose.{InForce, VerboseWatch, WritesVerbose, WritesVerboseDebug, debug_status, debug_with, in_force_after_by, in_force_past, verbose_debug_turn, verbose_end, verbose_turn, verbose_watching}
use Rattle.dp_commands.specs.steps.Texts.{WritesRun}
use Rattle.dp_commands.specs.declared.fault.PbxFault.{PbxFault}
use Rattle.dp_commands.specs.declared.fault.PbxFault.TheVariants.{Coded, NoMemory}
use Rattle.dp_commands.specs.declared.script.Turn.{Turn}
use Rattle.dp_commands.specs.declared.script.Turn.TheVariants.{Event as turn_event, Show}

-- a refused result stays refused, whatever comes after it
next_refused : {X Y : Type 0} (fault : PbxFault) (read : Result X PbxFault) (next : X → Result Y PbxFault) → Refuses (reason_of fault) read
    → Refuses (reason_of fault) (read >>= next)
next_refused (Coded code line) (Ok x) next refused = absurd cc
next_refused (Coded code line) (Err given) next refused = let same : given ≡ Coded code line = cc in ap Err same
next_refused NoMemory read next refused = tt

-- a run whose dialplan is refused
pub run_refused : (plan : List ℕ) (queues second_plan : Option (List ℕ)) (script : List ℕ) (fault : PbxFault)
    → Refuses (reason_of fault) (plan_fault (plan_and_notes plan)) → Refuses (reason_of fault) (run_of plan queues second_plan script)
unfolding run_of
run_refused plan queues second_plan script fault refused =
    next_refused fault (contents_of plan queues second_plan script) _ (next_refused fault (files_of plan queues) _ (next_refused fault (plan_fault (plan_and_notes plan)) _ refused))

-- the same under a debugger
pub debug_refused : (held : Break) (run : Result Run PbxFault) (fault : PbxFault) → Refuses (reason_of fault) run
    → Refuses (reason_of fault) (debug_with held run)
debug_refused held run fault refused = next_refused fault run (λ run. Ok (debug_on held run)) refused

module _ (explanation : Refusal → List ℕ) (in_force : InForce) where
  -- nothing is written if the run is refused
  pub verbose_refused : (old : Option (List ℕ)) (run : Result Run PbxFault) (fault : PbxFault) → Refuses (reason_of fault) run
      → WritesVerbose explanation in_force old old run (Err fault)
  verbose_refused old (Ok run) (Coded code line) refused = absurd cc
  verbose_refused old (Err given) (Coded code line) refused = (Appends-nil old, cc)
  verbose_refused old (Ok run) NoMemory refused = record { count = 0; within = omega arith; written = Appends-nil old }
  verbose_refused old (Err given) NoMemory refused = Appends-nil old

  pub verbose_debug_refused : (old : Option (List ℕ)) (debug : Result DebugRun PbxFault) (fault : PbxFault) → Refuses (reason_of fault) debug
      → WritesVerboseDebug explanation in_force old old debug (Err fault)
  verbose_debug_refused old (Ok debug) (Coded code line) refused = absurd cc
  verbose_debug_refused old (Err given) (Coded code line) refused = (Appends-nil old, cc)
  verbose_debug_refused old (Ok debug) NoMemory refused = record { count = 0; within = omega arith; written = Appends-nil old }
  verbose_debug_refused old (Err given) NoMemory refused = Appends-nil old

  -- turns that are taken with more text above their lines
  pub WritesVerbose_run : (run : Result Run PbxFault) (old new : Option (List ℕ)) (result : Result ℕ PbxFault)
      → WritesRun (verbose_turn explanation) (λ at. []) (λ at refused. status_by refused) in_force old new run result → WritesVerbose explanation in_force old new run result
  WritesVerbose_run (Ok run) old new result written = written
  WritesVerbose_run (Err fault) old new (Ok status) written = written
  WritesVerbose_run (Err fault) old new (Err (Coded code line)) written = written
  WritesVerbose_run (Err fault) old new (Err NoMemory) written = written

  pub WritesVerboseDebug_run : (held : Break) (run : Result Run PbxFault) (old new : Option (List ℕ)) (result : Result ℕ PbxFault)
      → WritesRun (verbose_debug_turn explanation) (λ at. verbose_end at.0) (λ at refused. status_by refused) (record { watch = record { held = held; taken = 0 }; in_force = in_force }) old new run result
      → WritesVerboseDebug explanation in_force old new (debug_with held run) result
  WritesVerboseDebug_run held (Ok run) old new result written = written
  WritesVerboseDebug_run held (Err fault) old new (Ok status) written = written
  WritesVerboseDebug_run held (Err fault) old new (Err (Coded code line)) written = written
  WritesVerboseDebug_run held (Err fault) old new (Err NoMemory) written = written

  -- a turn is refused if it is refused in a plain run
  refused_in-verbose : (at : InForce) (w : World) (turns : List Turn) → refused_in (verbose_turn explanation) (at, w) turns ≡ any_refused w turns
  refused_in-verbose at w [] = refl
  refused_in-verbose at w (turn ∷ turns) =
      ap (λ r. (after_turn w turn).refused || r) (refused_in-verbose (in_force_after_by standard_meanings at w turn) (after_turn w turn).world turns)

  -- so the status is that of the plain run
  status_when : (given : Result Run PbxFault) (old new : Option (List ℕ)) (status : ℕ) → WritesVerbose explanation in_force old new given (Ok status)
      → (run : Run) → given ≡ Ok run → status ≡ status_of run
  status_when (Ok ran) old new status written run is =
      let same : ran ≡ run = cc in
      written.1 ∙ (ap status_by (refused_in-verbose in_force ran.world ran.turns) ∙ ap status_of same)
  status_when (Err fault) old new status written run is = absurd written

  pub verbose_status : (given : Result Run PbxFault) (old new : Option (List ℕ)) (result : Result ℕ PbxFault) → WritesVerbose explanation in_force old new given result
      → IfOk result (λ status. (run : Run) → given ≡ Ok run → status ≡ status_of run)
  verbose_status given old new (Ok status) written = status_when given old new status written
  verbose_status given old new (Err fault) written = tt

  -- the same under a debugger
  refused_in-verbose_debug : (at : VerboseWatch) (w : World) (turns : List Turn)
      → refused_in (verbose_debug_turn explanation) (at, w) turns ≡ refused_in debug_turn (at.watch, w) turns
  refused_in-verbose_debug at w [] = refl
  refused_in-verbose_debug at w (turn_event event ∷ turns) =
      ap (λ r. is_refused (event_row standard_meanings w event).1 || r)
      (refused_in-verbose_debug (record { watch = record { held = at.watch.held; taken = one_more at.watch.taken }; in_force = in_force_past at.in_force w event })
      (final_world standard_meanings w event) turns)
  refused_in-verbose_debug at w (Show number name ∷ turns) = refused_in-verbose_debug at w turns

  debug_status_when : (given : Result DebugRun PbxFault) (old new : Option (List ℕ)) (status : ℕ) → WritesVerboseDebug explanation in_force old new given (Ok status)
      → (debug : DebugRun) → given ≡ Ok debug → status ≡ debug_status debug
  debug_status_when (Ok ran) old new status written debug is =
      let same : ran ≡ debug = cc in
      written.1 ∙ (ap status_by (refused_in-verbose_debug (verbose_watching in_force ran).0 ran.run.world ran.run.turns)
      ∙ ap debug_status same)
  debug_status_when (Err fault) old new status written debug is = absurd written

  pub verbose_debug_status : (given : Result DebugRun PbxFault) (old new : Option (List ℕ)) (result : Result ℕ PbxFault)
      → WritesVerboseDebug explanation in_force old new given result
      → IfOk result (λ status. (debug : DebugRun) → given ≡ Ok debug → status ≡ debug_status debug)
  verbose_debug_status given old new (Ok status) written = debug_status_when given old new status written
  verbose_debug_status given old new (Err fault) written = tt
