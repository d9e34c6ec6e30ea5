-- Debugged runs: how the text of a break is read, and the lines that halts add to the trace.
use Rattle.std.specs.Prelude.{◌≡◌, ℕ, ◌++◌, ◌==◌, nat_lt, Bool, false, List, [], ◌∷◌, Option, Some, None, is_some, Result, Ok, Err, codes, decimal, if◌then◌else◌}
use Rattle.std.specs.Io.KnownBytes.{Appends}
use Rattle.std.specs.List.{slice_split}
use Rattle.std.specs.Option.{option_and_then, option_map}
use Rattle.dp_conf.specs.Answers.{◌>>=◌}
use Rattle.dp_debug.specs.Breaks.{first_before}
use Rattle.dp_debug.specs.declared.breaks.Break.{Break}
use Rattle.dp_debug.specs.declared.breaks.Break.TheVariants.{At}
use Rattle.dp_machine.specs.Events.{event_row, is_refused}
use Rattle.dp_machine.specs.Replay.{final_world}
use Rattle.dp_machine.specs.World.{World}
use Rattle.dp_conf.specs.Numbers.{most_priority}
use Rattle.dp_queue.specs.Changes.{one_more}
use Rattle.dp_table.specs.Standard.{standard_meanings}
use Rattle.dp_commands.specs.Run.{Run}
use Rattle.dp_commands.specs.Script.{number_within}
use Rattle.dp_commands.specs.Trace.{event_line}
use Rattle.dp_commands.specs.Turns.{Taken, WritesTurns}
use Rattle.dp_commands.specs.declared.fault.Code.TheVariants.{BadBreak}
use Rattle.dp_commands.specs.declared.fault.PbxFault.{PbxFault}
use Rattle.dp_commands.specs.declared.fault.PbxFault.TheVariants.{Coded, NoMemory}
use Rattle.dp_commands.specs.declared.script.Turn.{Turn}
use Rattle.dp_commands.specs.declared.script.Turn.TheVariants.{Event as turn_event, Show}

-- the priority that a part holds: digits that write a number from 1 to the greatest priority
abbrev pub priority_in : List ℕ → Option ℕ
priority_in part = option_and_then (λ n. if nat_lt 0 n then Some n else None) (number_within most_priority part)

-- the break that three parts name: a context, an extension and a priority; no part is trimmed
abbrev pub break_by : List (List ℕ) → Option Break
break_by [] = None
break_by (context ∷ []) = None
break_by (context ∷ exten ∷ []) = None
break_by (context ∷ exten ∷ part ∷ []) =
    option_map (λ priority. At (record { context = context; exten = exten; priority = priority })) (priority_in part)
break_by (context ∷ exten ∷ part ∷ more ∷ parts) = None

-- whether a byte is a comma
abbrev pub is_comma : ℕ → Bool
is_comma byte = byte == 44

-- the parts of a text between its commas
abbrev pub parts_of : List ℕ → List (List ℕ)
parts_of text = slice_split is_comma text

-- the break, or the fault of a text that does not name one
abbrev pub or_bad_break : Option Break → Result Break PbxFault
or_bad_break None = Err (Coded BadBreak None)
or_bad_break (Some held) = Ok held

-- the break that the text `CONTEXT,EXTEN,PRIORITY` names, or the text's fault
unfoldable pub break_of : List ℕ → Result Break PbxFault
break_of text = or_bad_break (break_by (parts_of text))

-- the state of a debugged run: its break, and the number of events taken so far
pub record Watch : Type 0 where
  pub held : Break
  pub taken : ℕ

-- the line of a halt after a number of events, `break TAKEN`
abbrev pub halt_line : ℕ → List ℕ
halt_line taken = codes "break " ++ decimal taken ++ 10 ∷ []

-- the line of a halt if the run halts, else nothing
abbrev pub halt_text : Bool → ℕ → List ℕ
halt_text halted taken = if halted then halt_line taken else []

-- how a turn changes a debugged run and its world: the run halts before an event at which its break holds, then takes the event; a turn
-- that only shows a value is skipped
abbrev pub debug_turn : Watch × World → Turn → Taken (Watch × World)
debug_turn at (turn_event event) =
    record {
      state = (record { held = at.0.held; taken = one_more at.0.taken }, final_world standard_meanings at.1 event);
      lines = halt_text (is_some (first_before at.1 event (at.0.held ∷ []))) at.0.taken ++ event_line at.1 event;
      refused = is_refused (event_row standard_meanings at.1 event).1;
    }
debug_turn at (Show number name) = record { state = at; lines = []; refused = false }

-- the last line, `end TAKEN`
abbrev pub end_line : ℕ → List ℕ
end_line taken = codes "end " ++ decimal taken ++ 10 ∷ []

abbrev pub end_text : Watch → List ℕ
end_text watch = end_line watch.taken

-- a debugged run: its break, and the run
pub record DebugRun : Type 0 where
  pub held : Break
  pub run : Run

-- a run, debugged with a break
abbrev pub debug_on : Break → Run → DebugRun
debug_on held run = record { held = held; run = run }

-- a run, debugged with the break that a text names, or the first fault: that of the break, then that of the run's texts
unfoldable pub debug_of : Result Run PbxFault → List ℕ → Result DebugRun PbxFault
debug_of given held = break_of held >>= λ found. given >>= λ run. Ok (debug_on found run)

-- the state before the first event
abbrev pub watching : DebugRun → Watch × World
watching debug = (record { held = debug.held; taken = 0 }, debug.run.world)

-- the output and result of a debugged run, given the run or the fault of its texts
abbrev pub WritesDebug : Option (List ℕ) → Option (List ℕ) → Result DebugRun PbxFault → Result ℕ PbxFault → Type 0
WritesDebug old new (Ok debug) result = WritesTurns debug_turn (λ at. end_text at.0) (watching debug) debug.run.turns old new result
WritesDebug old new (Err fault) (Ok status) = ⊥
WritesDebug old new (Err fault) (Err (Coded code line)) = Appends old new [] × (fault ≡ Coded code line)
WritesDebug old new (Err fault) (Err NoMemory) = Appends old new []
