-- The output and result of a run of a script with facts.
use Rattle.std.specs.Prelude.{◌≡◌, ℕ, List, [], Option, Result, Ok, Err}
use Rattle.std.specs.Io.KnownBytes.{Appends}
use Rattle.std.specs.Option.{option_map}
use Rattle.dp_conf.specs.Answers.{◌>>=◌}
use Rattle.dp_plan.specs.Plan.{PlanOf}
use Rattle.dp_queue.specs.Queues.{QueuesOf}
use Rattle.dp_machine.specs.World.{World, opening_with}
use Rattle.dp_wide.specs.Functions.{wide_functions}
use Rattle.dp_commands.specs.Run.{files_of}
use Rattle.dp_commands.specs.Script.{turns_of}
use Rattle.dp_commands.specs.Turns.{WritesTurnsBy}
use Rattle.dp_commands.specs.declared.fault.PbxFault.{PbxFault}
use Rattle.dp_commands.specs.declared.fault.PbxFault.TheVariants.{Coded, NoMemory}
use Rattle.dp_commands.specs.declared.script.ScriptLine.{ScriptLine}
use Rattle.dp_commands.specs.declared.texts.RunTexts.{RunTexts}
use Rattle.dp_wide_runs.specs.Lines.{wide_script_of}
use Rattle.dp_wide_runs.specs.Given.{AreAllGiven}
use Rattle.dp_wide_runs.specs.Turns.{Stops, no_stops, wide_status, wide_turn}
use Rattle.dp_wide_runs.specs.declared.wide_turn.WideTurn.{WideTurn}

-- a run: its first world, and its turns
pub record WideRun : Type 0 where
  pub world : World
  pub turns : List WideTurn

-- the state before the first turn
abbrev pub at_first : WideRun → Stops × World
at_first run = (no_stops, run.world)

-- the contents of a run's texts
pub record WideContentsOf : Type 0 where
  pub plan : PlanOf
  pub queues : QueuesOf
  pub lines : List (ScriptLine WideTurn)

-- the contents of the texts of a dialplan, its queues and a script, with an optional second dialplan; or the first fault: that of the
-- dialplan, then the queues, then the script
abbrev pub contents_of : List ℕ → Option (List ℕ) → Option (List ℕ) → List ℕ → Result WideContentsOf PbxFault
contents_of plan queues second_plan script =
    files_of plan queues >>= λ files. wide_script_of second_plan script >>= λ lines.
    Ok (record { plan = files.plan; queues = files.queues; lines = lines })

-- the run of these turns, starting from a world
abbrev pub run_on : World → List WideTurn → WideRun
run_on world turns = record { world = world; turns = turns }

-- the run of a dialplan, its queues, an optional second dialplan and a script, or the first fault
unfoldable pub run_of : List ℕ → Option (List ℕ) → Option (List ℕ) → List ℕ → Result WideRun PbxFault
run_of plan queues second_plan script =
    contents_of plan queues second_plan script >>= λ told. Ok (run_on (opening_with wide_functions told.plan told.queues) (turns_of told.lines))

-- the run of a record of texts, or the first fault
abbrev pub run_of_texts : RunTexts → Result WideRun PbxFault
run_of_texts texts =
    run_of texts.plan.now (option_map (λ text. text.now) texts.queues) (option_map (λ text. text.now) texts.second_plan) texts.script.now

-- the output and result of a run, given the run or the fault of its texts
abbrev pub WritesWide : Option (List ℕ) → Option (List ℕ) → Result WideRun PbxFault → Result ℕ PbxFault → Type 0
WritesWide old new (Ok run) result =
    WritesTurnsBy wide_turn (λ at. []) (λ at. wide_status at.0) (at_first run) run.turns old new result
WritesWide old new (Err fault) (Ok status) = ⊥
WritesWide old new (Err fault) (Err (Coded code line)) = Appends old new [] × (fault ≡ Coded code line)
WritesWide old new (Err fault) (Err NoMemory) = Appends old new []

-- a run that ended with status 0 met nothing unknown, had no refusal and left nothing out
abbrev pub IsPlain : Result WideRun PbxFault → ℕ → Type 0
IsPlain given status = (run : WideRun) → given ≡ Ok run → status ≡ 0 → AreAllGiven (at_first run) run.turns
