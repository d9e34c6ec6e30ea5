-- The output and result of a run.
use Rattle.std.specs.Prelude.{◌≡◌, ℕ, ◌≤◌, Bool, List, [], length, take, Option, Some, None, Result, Ok, Err, if◌then◌else◌}
use Rattle.std.specs.Io.KnownBytes.{Appends}
use Rattle.std.specs.Option.{option_map}
use Rattle.dp_conf.specs.Answers.{◌>>=◌}
use Rattle.dp_conf.specs.Fronts.{AppendsFront}
use Rattle.dp_plan.specs.Loaded.{plan_and_notes}
use Rattle.dp_plan.specs.Plan.{PlanOf}
use Rattle.dp_plan.specs.declared.fault.LoadFault.{LoadFault}
use Rattle.dp_queue.specs.File.{queues_in as queues_loaded}
use Rattle.dp_queue.specs.Queues.{QueuesOf, no_queues}
use Rattle.dp_queue.specs.declared.fault.QueueFault.{QueueFault}
use Rattle.dp_machine.specs.World.{World, opening}
use Rattle.dp_commands.specs.Faults.{fault_of_load, fault_of_queue}
use Rattle.dp_commands.specs.Script.{script_of, turns_of}
use Rattle.dp_commands.specs.Trace.{trace_of, any_refused}
use Rattle.dp_commands.specs.declared.fault.Code.TheVariants.{WriteFailed}
use Rattle.dp_commands.specs.declared.fault.PbxFault.{PbxFault}
use Rattle.dp_commands.specs.declared.fault.PbxFault.TheVariants.{Coded, NoMemory}
use Rattle.dp_commands.specs.declared.script.ScriptLine.{ScriptLine}
use Rattle.dp_commands.specs.declared.script.Turn.{Turn}
use Rattle.dp_commands.specs.declared.texts.RunTexts.{RunTexts}

-- the trace of the first turns, as many as `count`, was written, and nothing else
pub record TracesFirst (w : World) (turns : List Turn) (old new : Option (List ℕ)) : Type 0 where
  pub count : ℕ
  pub within : count ≤ length turns
  pub written : Appends old new (trace_of w (take count turns))

-- the status of a run, given whether a turn was refused
abbrev pub status_by : Bool → ℕ
status_by refused = if refused then 1 else 0

-- a run: its first world, and its turns
pub record Run : Type 0 where
  pub world : World
  pub turns : List Turn

-- the run of these turns, starting from a world
abbrev pub run_on : World → List Turn → Run
run_on world turns = record { world = world; turns = turns }

-- the result of reading a dialplan, with its fault as one of the program
abbrev pub plan_fault : {X : Type 0} → Result X LoadFault → Result X PbxFault
plan_fault (Ok x) = Ok x
plan_fault (Err fault) = Err (fault_of_load fault)

-- the result of reading a queue file, with its fault as one of the program
abbrev pub queue_fault : {X : Type 0} → Result X QueueFault → Result X PbxFault
queue_fault (Ok x) = Ok x
queue_fault (Err fault) = Err (fault_of_queue fault)

-- the queues of a run, given the text of the queue file, if there is one
abbrev pub queues_of : Option (List ℕ) → Result QueuesOf PbxFault
queues_of None = Ok no_queues
queues_of (Some text) = queue_fault (queues_loaded text)

-- the contents of a run's files
pub record LoadedFilesOf : Type 0 where
  pub plan : PlanOf
  pub queues : QueuesOf

-- the contents of a run's texts
pub record RunContentsOf : Type 0 where
  pub plan : PlanOf
  pub queues : QueuesOf
  pub lines : List (ScriptLine Turn)

-- the contents of a dialplan's text and a queue file's text, or the first fault: that of the dialplan, then that of the queues
abbrev pub files_of : List ℕ → Option (List ℕ) → Result LoadedFilesOf PbxFault
files_of plan queues =
    plan_fault (plan_and_notes plan) >>= λ read. queues_of queues >>= λ held. Ok (record { plan = read.0; queues = held })

-- the contents of the texts of a dialplan, its queues and a script, with an optional second dialplan; or the first fault: that of the
-- dialplan, then the queues, then the script; a fault of the second dialplan does not count
abbrev pub contents_of : List ℕ → Option (List ℕ) → Option (List ℕ) → List ℕ → Result RunContentsOf PbxFault
contents_of plan queues second_plan script =
    files_of plan queues >>= λ files. script_of second_plan script >>= λ lines.
    Ok (record { plan = files.plan; queues = files.queues; lines = lines })

-- the run of a dialplan, its queues, an optional second dialplan and a script, or the first fault
unfoldable pub run_of : List ℕ → Option (List ℕ) → Option (List ℕ) → List ℕ → Result Run PbxFault
run_of plan queues second_plan script =
    contents_of plan queues second_plan script >>= λ told. Ok (run_on (opening told.plan told.queues) (turns_of told.lines))

-- the run of a record of texts, or the first fault
abbrev pub run_of_texts : RunTexts → Result Run PbxFault
run_of_texts texts =
    run_of texts.plan.now (option_map (λ text. text.now) texts.queues) (option_map (λ text. text.now) texts.second_plan) texts.script.now

-- the status of a run: 1 if a turn was refused
abbrev pub status_of : Run → ℕ
status_of run = status_by (any_refused run.world run.turns)

-- the output and result of a run, given the run or the fault of its texts
abbrev pub Writes : Option (List ℕ) → Option (List ℕ) → Result Run PbxFault → Result ℕ PbxFault → Type 0
Writes old new (Ok run) (Ok status) = Appends old new (trace_of run.world run.turns) × (status ≡ status_of run)
Writes old new (Ok run) (Err (Coded code line)) =
    AppendsFront old new (trace_of run.world run.turns) × (code ≡ WriteFailed) × (line ≡ None)
Writes old new (Ok run) (Err NoMemory) = TracesFirst run.world run.turns old new
Writes old new (Err fault) (Ok status) = ⊥
Writes old new (Err fault) (Err (Coded code line)) = Appends old new [] × (fault ≡ Coded code line)
Writes old new (Err fault) (Err NoMemory) = Appends old new []
