-- Runs that are given by their texts, taken plainly and under a debugger.
use Rattle.std.proofs.Common.{ℕ, List, [], length, Option, Result, Ok, Err, refl, sym, subst, arith}
use Rattle.std.proofs.KnownBytes.{Appends-nil}
use Rattle.std.proofs.Math.Seq.{take-length}
use Rattle.std.specs.Io.KnownBytes.{Appends}
use Rattle.dp_conf.specs.Answers.{Refuses, ◌>>=◌}
use Rattle.dp_debug.specs.declared.breaks.Break.{Break}
use Rattle.dp_commands.specs.Debug.{WritesDebug, debug_on, debug_turn, end_text}
use Rattle.dp_commands.specs.Faults.{reason_of}
use Rattle.dp_commands.specs.Run.{Run, Writes, status_by}
use Rattle.dp_commands.specs.Trace.{trace_of}
use Rattle.dp_commands.specs.steps.Streams.{plainly}
use Rattle.dp_commands.specs.steps.Texts.{WritesRun}
use Rattle.dp_commands.specs.declared.fault.PbxFault.{PbxFault}
use Rattle.dp_commands.specs.declared.fault.PbxFault.TheVariants.{Coded, NoMemory}
use Rattle.dp_commands.proofs.StreamsLemmas.{Writes_plainly}

-- turns that are taken plainly
pub Writes_run : {P : Type 0} (p : P) (r : Result Run PbxFault) (old new : Option (List ℕ)) (result : Result ℕ PbxFault) → WritesRun plainly (λ at. []) (λ at refused. status_by refused) p old new r result → Writes old new r result
Writes_run p (Ok run) old new result written = Writes_plainly p run.world run.turns old new result written
Writes_run p (Err fault) old new (Ok status) written = written
Writes_run p (Err fault) old new (Err (Coded code line)) written = written
Writes_run p (Err fault) old new (Err NoMemory) written = written

-- turns that are taken under a debugger, from before the first event on
pub WritesDebug_run : (held : Break) (r : Result Run PbxFault) (old new : Option (List ℕ)) (result : Result ℕ PbxFault) → WritesRun debug_turn (λ at. end_text at.0) (λ at refused. status_by refused) (record { held = held; taken = 0 }) old new r result → WritesDebug old new (r >>= λ run. Ok (debug_on held run)) result
WritesDebug_run held (Ok run) old new result written = written
WritesDebug_run held (Err fault) old new (Ok status) written = written
WritesDebug_run held (Err fault) old new (Err (Coded code line)) written = written
WritesDebug_run held (Err fault) old new (Err NoMemory) written = written

-- memory ran out before anything was written
pub Writes_lacks : (old : Option (List ℕ)) (r : Result Run PbxFault) → Writes old old r (Err NoMemory)
Writes_lacks old (Ok run) = record { count = 0; within = omega arith; written = Appends-nil old }
Writes_lacks old (Err fault) = Appends-nil old

-- memory ran out after all turns
pub Writes_done : (old new : Option (List ℕ)) (r : Result Run PbxFault) (status : ℕ) → Writes old new r (Ok status) → Writes old new r (Err NoMemory)
Writes_done old new (Ok run) status written = record {
  count = length run.turns;
  within = omega arith;
  written = subst (λ turns. Appends old new (trace_of run.world turns)) (sym (take-length run.turns)) written.0;
}
Writes_done old new (Err fault) status written = absurd written

-- the texts have a fault, or memory ran out while they were read
pub Writes_refused : (old : Option (List ℕ)) (r : Result Run PbxFault) (fault : PbxFault) → Refuses (reason_of fault) r → Writes old old r (Err fault)
Writes_refused old r (Coded code line) refused = subst (λ given. Writes old old given (Err (Coded code line))) (sym refused) (Appends-nil old, refl)
Writes_refused old r NoMemory refused = Writes_lacks old r
