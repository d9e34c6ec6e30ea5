-- Debugged runs of a script with facts: those without a break over the turns that show no value, with the lines of halts and a last line.
use Rattle.std.specs.Prelude.{◌≡◌, ℕ, ◌++◌, Bool, true, false, not, List, [], ◌∷◌, filter, Option, is_some, Result, Ok, Err, ⊤}
use Rattle.std.specs.Io.KnownBytes.{Appends}
use Rattle.dp_conf.specs.Answers.{◌>>=◌}
use Rattle.dp_queue.specs.Changes.{one_more}
use Rattle.dp_machine.specs.World.{World}
use Rattle.dp_machine.specs.declared.refusal.Refusal.{Refusal}
use Rattle.dp_debug.specs.Breaks.{first_before}
use Rattle.dp_debug.specs.declared.breaks.Break.{Break}
use Rattle.dp_commands.specs.Debug.{Watch, break_of, end_text, halt_text}
use Rattle.dp_commands.specs.Turns.{Taken}
use Rattle.dp_commands.specs.Verbose.{InForce}
use Rattle.dp_commands.specs.declared.fault.PbxFault.{PbxFault}
use Rattle.dp_commands.specs.declared.fault.PbxFault.TheVariants.{Coded, NoMemory}
use Rattle.dp_commands.specs.declared.script.Turn.{Turn}
use Rattle.dp_commands.specs.declared.script.Turn.TheVariants.{Event, Show}
use Rattle.dp_wide_runs.specs.Beside.{WritesBeside, turn_beside}
use Rattle.dp_wide_runs.specs.Runs.{WideRun, run_on}
use Rattle.dp_wide_runs.specs.Turns.{Stops}
use Rattle.dp_wide_runs.specs.Verbose.{above_refusal, above_turn, in_force_after, wide_status_of}
use Rattle.dp_wide_runs.specs.declared.wide_turn.WideTurn.{WideTurn}
use Rattle.dp_wide_runs.specs.declared.wide_turn.WideTurn.TheVariants.{Plain, Further, Pass}

-- whether a turn of a plain script shows a value
abbrev pub is_show : Turn → Bool
is_show (Event event) = false
is_show (Show number name) = true

-- whether a turn shows a value
abbrev pub shows : WideTurn → Bool
shows (Plain turn) = is_show turn
shows (Further number) = false
shows (Pass number) = false

-- the turns that show no value
abbrev pub without_shows : List WideTurn → List WideTurn
without_shows turns = filter (λ turn. not (shows turn)) turns

-- a run without the turns that show a value
abbrev pub run_without_shows : WideRun → WideRun
run_without_shows run = run_on run.world (without_shows run.turns)

-- the watch after a turn that the machine is given: one more event is taken
abbrev pub watch_after : Watch → Turn → Watch
watch_after watch (Event event) = record { held = watch.held; taken = one_more watch.taken }
watch_after watch (Show number name) = watch

-- the line of the halt before a turn that a world meets; nothing if the break does not hold there
abbrev pub halt_before : Watch → World → Turn → List ℕ
halt_before watch w (Event event) = halt_text (is_some (first_before w event (watch.held ∷ []))) watch.taken
halt_before watch w (Show number name) = []

-- the watch and a further state after a turn that the machine is given
abbrev pub watched_after : {P : Type 0} → (P → World → Turn → P) → Watch × P → World → Turn → Watch × P
watched_after after at w turn = (watch_after at.0 turn, after at.1 w turn)

-- the text above the line of a turn that the machine is given: the line of a halt stands above all other text
abbrev pub watched_above : {P : Type 0} → (P → World → Turn → List ℕ) → Watch × P → World → Turn → List ℕ
watched_above above at w turn = halt_before at.0 w turn ++ above at.1 w turn

-- the last line of a debugged run, `end TAKEN`
abbrev pub watched_last : {P : Type 0} → Watch × P → List ℕ
watched_last at = end_text at.0

-- the result of a turn of a debugged run: as without a break, with the line of a halt above its lines
abbrev pub debug_turn : {P : Type 0} → (P → World → Turn → P) → (P → World → Turn → List ℕ) → (Refusal → List ℕ)
    → (Stops × (Watch × P)) × World → WideTurn → Taken ((Stops × (Watch × P)) × World)
debug_turn after above above_refusal at turn = turn_beside (watched_after after) (watched_above above) above_refusal at turn

-- the result of a turn of a debugged run without verbose output
abbrev pub plain_debug_turn : (Stops × (Watch × ⊤)) × World → WideTurn → Taken ((Stops × (Watch × ⊤)) × World)
plain_debug_turn at turn = debug_turn (λ beside w turn. beside) (λ beside w turn. []) (λ refusal. []) at turn

-- the result of a turn of a verbose debugged run
abbrev pub verbose_debug_turn : (Refusal → List ℕ) → (Stops × (Watch × InForce)) × World → WideTurn → Taken ((Stops × (Watch × InForce)) × World)
verbose_debug_turn explanation at turn = debug_turn in_force_after (above_turn explanation) (above_refusal explanation) at turn

-- a debugged run: its break, and the run whose turns are taken
pub record WideDebug : Type 0 where
  pub held : Break
  pub run : WideRun

-- a run, debugged with a break: the turns that show a value are left out
abbrev pub debug_on : Break → WideRun → WideDebug
debug_on held run = record { held = held; run = run_without_shows run }

-- the same, or the fault of the run's texts
abbrev pub debug_with : Break → Result WideRun PbxFault → Result WideDebug PbxFault
debug_with held given = given >>= λ run. Ok (debug_on held run)

-- a run, debugged with the break that a text names, or the first fault: that of the break, then that of the run's texts
unfoldable pub wide_debug_of : Result WideRun PbxFault → List ℕ → Result WideDebug PbxFault
wide_debug_of given held = break_of held >>= λ found. debug_with found given

-- the watch before the first event
abbrev pub watching : Break → Watch
watching held = record { held = held; taken = 0 }

-- the output and result of a debugged run with more text above some lines, given the run or the first fault, and the first further state
abbrev pub WritesDebugged : {P : Type 0} → (P → World → Turn → P) → (P → World → Turn → List ℕ) → (Refusal → List ℕ) → P
    → Option (List ℕ) → Option (List ℕ) → Result WideDebug PbxFault → Result ℕ PbxFault → Type 0
WritesDebugged after above above_refusal beside old new (Ok debug) result =
    WritesBeside (watched_after after) (watched_above above) above_refusal watched_last (watching debug.held, beside) old new (Ok debug.run) result
WritesDebugged after above above_refusal beside old new (Err fault) (Ok status) = ⊥
WritesDebugged after above above_refusal beside old new (Err fault) (Err (Coded code line)) = Appends old new [] × (fault ≡ Coded code line)
WritesDebugged after above above_refusal beside old new (Err fault) (Err NoMemory) = Appends old new []

-- the output and result of a debugged run, given the run or the first fault: only the lines of halts are above other lines
abbrev pub WritesWideDebug : Option (List ℕ) → Option (List ℕ) → Result WideDebug PbxFault → Result ℕ PbxFault → Type 0
WritesWideDebug old new given result = WritesDebugged (λ beside w turn. beside) (λ beside w turn. []) (λ refusal. []) (tt {0}) old new given result

-- the output and result of a verbose debugged run, given the run or the first fault, and the dialplan that is first in force
abbrev pub WritesWideVerboseDebug : (Refusal → List ℕ) → InForce → Option (List ℕ) → Option (List ℕ) → Result WideDebug PbxFault → Result ℕ PbxFault → Type 0
WritesWideVerboseDebug explanation in_force old new given result =
    WritesDebugged in_force_after (above_turn explanation) (above_refusal explanation) in_force old new given result

-- a debugged run ended with the status of the run without a break over the same turns
abbrev pub HasSameStatus : Result WideDebug PbxFault → ℕ → Type 0
HasSameStatus given status = (debug : WideDebug) → given ≡ Ok debug → status ≡ wide_status_of debug.run
