-- Runs read no file, so they have no fault of a reader.
use Rattle.std.proofs.Common.{◌≡◌, ℕ, ◌+◌, false, List, [], ◌∷◌, ◌++◌, length, Option, Some, None, Result, Ok, Err, refl, ap, sym, ◌∙◌}
use Rattle.dp_conf.specs.Answers.{◌>>=◌, all_of, each_after, with_front}
use Rattle.dp_conf.specs.Lines.{parts_of}
use Rattle.dp_plan.specs.Loaded.{plan_and_notes}
use Rattle.dp_plan.specs.declared.fault.LoadFault.{LoadFault}
use Rattle.dp_plan.specs.declared.fault.LoadFault.TheVariants.{Line as load_line, NoMemory as load_no_memory}
use Rattle.dp_plan.specs.declared.fault.LoadKind.TheVariants.{Conf, Pattern, Plan}
use Rattle.dp_queue.specs.File.{queues_in as queues_loaded}
use Rattle.dp_queue.specs.declared.fault.QueueFault.{QueueFault}
use Rattle.dp_queue.specs.declared.fault.QueueFault.TheVariants.{Line as queue_line, NoMemory as queue_no_memory}
use Rattle.dp_queue.specs.declared.fault.QueueLoadKind.TheVariants.{Conf as queue_conf, Queue}
use Rattle.dp_machine.specs.World.{opening}
use Rattle.dp_commands.specs.Run.{LoadedFilesOf, Run, RunContentsOf, Writes, contents_of, files_of, plan_fault, queue_fault, queues_of, run_of, run_on}
use Rattle.dp_commands.specs.Script.{line_in, reading_at, reading_by, script_of, turns_of}
use Rattle.dp_commands.specs.declared.fault.PbxFault.{PbxFault}
use Rattle.dp_commands.specs.declared.fault.PbxFault.TheVariants.{Coded, NoMemory}
use Rattle.dp_commands.specs.declared.script.ScriptLine.{ScriptLine}
use Rattle.dp_program.specs.Files.{has_read_failed, is_failed_read}

-- two steps without a fault of a reader, one after the other, have no such fault
next_reads : {X Y : Type 0} (read : Result X PbxFault) (next : X → Result Y PbxFault) → has_read_failed read ≡ false
    → ((x : X) → has_read_failed (next x) ≡ false) → has_read_failed (read >>= next) ≡ false
next_reads (Ok x) next quiet all = all x
next_reads (Err fault) next quiet all = quiet

plan_reads : {X : Type 0} (read : Result X LoadFault) → has_read_failed (plan_fault read) ≡ false
plan_reads (Ok x) = refl
plan_reads (Err (load_line line (Conf kind))) = refl
plan_reads (Err (load_line line (Pattern fault))) = refl
plan_reads (Err (load_line line (Plan kind))) = refl
plan_reads (Err load_no_memory) = refl

queue_reads : {X : Type 0} (read : Result X QueueFault) → has_read_failed (queue_fault read) ≡ false
queue_reads (Ok x) = refl
queue_reads (Err (queue_line line (queue_conf kind))) = refl
queue_reads (Err (queue_line line (Queue kind))) = refl
queue_reads (Err queue_no_memory) = refl

queues_read : (text : Option (List ℕ)) → has_read_failed (queues_of text) ≡ false
queues_read None = refl
queues_read (Some text) = queue_reads (queues_loaded text)

module _ {U : Type 0} where
  line_reads : (line : ℕ) (read : Option (List (ScriptLine U))) → has_read_failed (reading_at line read) ≡ false
  line_reads line None = refl
  line_reads line (Some lines) = refl

  lines_read : (stands_for : List ℕ → Option (List (ScriptLine U))) (before parts : List (List ℕ))
      → has_read_failed (all_of (each_after (reading_by stands_for) before parts)) ≡ false
  lines_read stands_for before [] = refl
  lines_read stands_for before (part ∷ parts) =
      let later : Result (List (ScriptLine U)) PbxFault = all_of (each_after (reading_by stands_for) (before ++ part ∷ []) parts) in
      next_reads (reading_by stands_for before part) (λ xs. with_front xs later)
      (line_reads (length before + 1) (stands_for part))
      (λ xs. next_reads later (λ ys. Ok (xs ++ ys)) (lines_read stands_for (before ++ part ∷ []) parts) (λ ys. refl))

script_reads : (second_plan : Option (List ℕ)) (text : List ℕ) → has_read_failed (script_of second_plan text) ≡ false
unfolding script_of
script_reads second_plan text = lines_read (line_in second_plan) [] (parts_of text)

files_read : (plan : List ℕ) (queues : Option (List ℕ)) → has_read_failed (files_of plan queues) ≡ false
files_read plan queues =
    next_reads {Y = LoadedFilesOf} (plan_fault (plan_and_notes plan)) (λ read. queues_of queues >>= λ held. Ok (record { plan = read.0; queues = held })) (plan_reads (plan_and_notes plan))
    (λ read. next_reads {Y = LoadedFilesOf} (queues_of queues) (λ held. Ok (record { plan = read.0; queues = held })) (queues_read queues) (λ held. refl))

told_reads : (plan : List ℕ) (queues second_plan : Option (List ℕ)) (script : List ℕ) → has_read_failed (contents_of plan queues second_plan script) ≡ false
told_reads plan queues second_plan script =
    next_reads {Y = RunContentsOf} (files_of plan queues)
    (λ files. script_of second_plan script >>= λ lines. Ok (record { plan = files.plan; queues = files.queues; lines = lines })) (files_read plan queues)
    (λ files. next_reads {Y = RunContentsOf} (script_of second_plan script) (λ lines. Ok (record { plan = files.plan; queues = files.queues; lines = lines }))
    (script_reads second_plan script) (λ lines. refl))

-- reading the texts of a run has no such fault
pub run_of_reads : (plan : List ℕ) (queues second_plan : Option (List ℕ)) (script : List ℕ) → has_read_failed (run_of plan queues second_plan script) ≡ false
unfolding run_of
run_of_reads plan queues second_plan script =
    next_reads (contents_of plan queues second_plan script) (λ told. Ok (run_on (opening told.plan told.queues) (turns_of told.lines)))
    (told_reads plan queues second_plan script) (λ told. refl)

-- and neither has the run
pub writes_reads : (old new : Option (List ℕ)) (given : Result Run PbxFault) (result : Result ℕ PbxFault)
    → has_read_failed given ≡ false → Writes old new given result → has_read_failed result ≡ false
writes_reads old new given (Ok status) quiet writes = refl
writes_reads old new (Ok run) (Err (Coded code line)) quiet writes = ap (λ code. is_failed_read (Coded code line)) writes.1
writes_reads old new (Err fault) (Err (Coded code line)) quiet writes = ap is_failed_read (sym writes.1) ∙ quiet
writes_reads old new given (Err NoMemory) quiet writes = refl
