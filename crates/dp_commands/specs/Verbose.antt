-- Verbose runs: the line of a step follows the entry that the step runs, and the line of a refusal follows its explanation.
use Rattle.std.specs.Prelude.{◌≡◌, ℕ, ◌++◌, ◌==◌, Bool, true, false, List, [], ◌∷◌, Option, Some, None, is_some, is_none, Result, Ok, Err, codes, if◌then◌else◌}
use Rattle.std.specs.Io.KnownBytes.{Appends}
use Rattle.std.specs.Option.{option_map, unwrap_or}
use Rattle.dp_app.specs.Rows.{Meanings}
use Rattle.dp_conf.specs.Answers.{◌>>=◌}
use Rattle.dp_debug.specs.Breaks.{first_before}
use Rattle.dp_debug.specs.declared.breaks.Break.{Break}
use Rattle.dp_plan.specs.Loaded.{lines_loaded}
use Rattle.dp_plan.specs.Lookup.{entry_at, line_at}
use Rattle.dp_plan.specs.Plan.{PlanOf}
use Rattle.dp_plan.specs.declared.entry.Entry.{Entry}
use Rattle.dp_plan.specs.declared.entry.EntryId.{EntryId}
use Rattle.dp_plan.specs.declared.fault.LoadFault.{LoadFault}
use Rattle.dp_machine.specs.Events.{arguments_ahead, event_row, is_refused}
use Rattle.dp_machine.specs.Replay.{final_world}
use Rattle.dp_machine.specs.World.{World}
use Rattle.dp_machine.specs.declared.event.Event.{Event}
use Rattle.dp_machine.specs.declared.event.Event.TheVariants.{Start, Step, Digit, Timeout, Poll, Hangup, DialResult, Offer, Answer, Decline, AgentDone, Reload, Assign, Redirect}
use Rattle.dp_machine.specs.declared.refusal.Refusal.{Refusal}
use Rattle.dp_machine.specs.declared.refusal.Refusal.TheVariants.{NoChannel}
use Rattle.dp_machine.specs.declared.reply.Reply.{Reply}
use Rattle.dp_machine.specs.declared.reply.Reply.TheVariants.{Started, Ran, Invalid, NoEntry, Offered, Done, Refused}
use Rattle.dp_queue.specs.Changes.{one_more}
use Rattle.dp_table.specs.Standard.{standard_meanings}
use Rattle.dp_commands.specs.Debug.{DebugRun, Watch, debug_on, debug_turn, end_text, halt_text, watching}
use Rattle.dp_commands.specs.LinePlaces.{PlacesOfLines, in_file, line_place}
use Rattle.dp_commands.specs.Run.{Run, status_by}
use Rattle.dp_commands.specs.Trace.{after_turn, event_line, phase_at}
use Rattle.dp_commands.specs.Turns.{Taken, WritesTurns, refused_in}
use Rattle.dp_commands.specs.declared.fault.PbxFault.{PbxFault}
use Rattle.dp_commands.specs.declared.fault.PbxFault.TheVariants.{Coded, NoMemory}
use Rattle.dp_commands.specs.declared.script.Turn.{Turn}
use Rattle.dp_commands.specs.declared.script.Turn.TheVariants.{Event as turn_event, Show}

-- the dialplan in force: where its lines come from, and the lines of its entries; and where the lines of the second dialplan come from
pub record InForce : Type 0 where
  pub places : PlacesOfLines
  pub second_places : PlacesOfLines
  pub lines : List (List ℕ)

-- the lines of a dialplan that has loaded; a dialplan with a fault has no entries
abbrev pub lines_or_none : Result (List (List ℕ)) LoadFault → List (List ℕ)
lines_or_none (Ok lines) = lines
lines_or_none (Err fault) = []

-- the lines of the entries of the dialplan that a text holds
abbrev pub lines_in : List ℕ → List (List ℕ)
lines_in text = lines_or_none (lines_loaded text)

-- where the lines of the second dialplan come from; without one they come from a file without a name
abbrev pub second_or_none : Option PlacesOfLines → PlacesOfLines
second_or_none places = unwrap_or places (in_file [])

-- the dialplan of this text before the first event, with where its lines come from and where those of the second do, if there is one
abbrev pub first_in_force_at : PlacesOfLines → Option PlacesOfLines → List ℕ → InForce
first_in_force_at places second_places text =
    record { places = places; second_places = second_or_none second_places; lines = lines_in text }

-- the same of dialplans that are the texts of the files with these names
abbrev pub first_in_force : List ℕ → Option (List ℕ) → List ℕ → InForce
first_in_force name second_name text = first_in_force_at (in_file name) (option_map (λ name. in_file name) second_name) text

-- the second dialplan, which has this text, is put in force
abbrev pub with_second : InForce → List ℕ → InForce
with_second in_force text = record { places = in_force.second_places; second_places = in_force.second_places; lines = lines_in text }

-- the dialplan in force after an event, given whether the event is refused: a reload that is taken puts the second in force
abbrev pub in_force_by : InForce → Event → Bool → InForce
in_force_by in_force (Reload text) false = with_second in_force text
in_force_by in_force (Reload text) true = in_force
in_force_by in_force (Start context exten caller) refused = in_force
in_force_by in_force (Step number) refused = in_force
in_force_by in_force (Digit number digit) refused = in_force
in_force_by in_force (Timeout number) refused = in_force
in_force_by in_force (Poll number) refused = in_force
in_force_by in_force (Hangup number) refused = in_force
in_force_by in_force (DialResult number status) refused = in_force
in_force_by in_force (Offer queue) refused = in_force
in_force_by in_force (Answer agent) refused = in_force
in_force_by in_force (Decline agent) refused = in_force
in_force_by in_force (AgentDone agent) refused = in_force
in_force_by in_force (Assign channel name value) refused = in_force
in_force_by in_force (Redirect number place) refused = in_force

-- the dialplan in force after an event that a world meets, given what names mean
abbrev pub in_force_past_by : Meanings → InForce → World → Event → InForce
in_force_past_by meanings in_force w event = in_force_by in_force event (is_refused (event_row meanings w event).1)

-- the dialplan in force after an event that a world meets, given what names mean in this program
abbrev pub in_force_past : InForce → World → Event → InForce
in_force_past in_force w event = in_force_past_by standard_meanings in_force w event

-- the arguments of the entry that an event runs, expanded in the world that the event meets, given what names mean; only a step runs an
-- entry
abbrev pub arguments_of_by : Meanings → World → Event → List ℕ
arguments_of_by meanings w (Step number) = unwrap_or (arguments_ahead meanings.functions w number) []
arguments_of_by meanings w (Start context exten caller) = []
arguments_of_by meanings w (Digit number digit) = []
arguments_of_by meanings w (Timeout number) = []
arguments_of_by meanings w (Poll number) = []
arguments_of_by meanings w (Hangup number) = []
arguments_of_by meanings w (DialResult number status) = []
arguments_of_by meanings w (Offer queue) = []
arguments_of_by meanings w (Answer agent) = []
arguments_of_by meanings w (Decline agent) = []
arguments_of_by meanings w (AgentDone agent) = []
arguments_of_by meanings w (Reload text) = []
arguments_of_by meanings w (Assign channel name value) = []
arguments_of_by meanings w (Redirect number place) = []

-- the application of an entry, as the entry writes it
abbrev pub application_in : Option Entry → List ℕ
application_in None = []
application_in (Some entry) = entry.application

-- the source of an entry, `FILE:LINE`, indented
abbrev pub source_text : InForce → EntryId → List ℕ
source_text in_force id = codes "  " ++ line_place in_force.places (line_at in_force.lines id)

-- what an entry runs, `APP(ARGS)`
abbrev pub call_text : PlanOf → EntryId → List ℕ → List ℕ
call_text plan id arguments = application_in (entry_at plan id) ++ codes "(" ++ arguments ++ codes ")"

-- the entry that a step runs, on a line of its own: `FILE:LINE APP(ARGS)`
abbrev pub ran_text : InForce → PlanOf → EntryId → List ℕ → List ℕ
ran_text in_force plan id arguments = source_text in_force id ++ codes " " ++ call_text plan id arguments ++ 10 ∷ []

-- a byte, with two blanks before it if it begins a line
abbrev pub indented_byte : Bool → ℕ → List ℕ
indented_byte begins byte = if begins then 32 ∷ 32 ∷ byte ∷ [] else byte ∷ []

-- bytes with two blanks before each line, given whether the first of them begins a line
abbrev pub indented_from : Bool → List ℕ → List ℕ
indented_from begins [] = []
indented_from begins (byte ∷ bytes) = indented_byte begins byte ++ indented_from (byte == 10) bytes

-- a text with two blanks before each of its lines
abbrev pub indented_text : List ℕ → List ℕ
indented_text text = indented_from true text

-- the text above the line of a reply, given the dialplan in force and the arguments of the entry that was run
abbrev pub above_reply : (Refusal → List ℕ) → InForce → PlanOf → List ℕ → Reply → List ℕ
above_reply explanation in_force plan arguments (Ran id) = ran_text in_force plan id arguments
above_reply explanation in_force plan arguments (Refused refusal) = indented_text (explanation refusal)
above_reply explanation in_force plan arguments (Started channel) = []
above_reply explanation in_force plan arguments NoEntry = []
above_reply explanation in_force plan arguments Invalid = []
above_reply explanation in_force plan arguments (Offered channel rung) = []
above_reply explanation in_force plan arguments Done = []

-- the text above the line of an event that a world meets, given what names mean
abbrev pub above_event_by : Meanings → (Refusal → List ℕ) → InForce → World → Event → List ℕ
above_event_by meanings explanation in_force w event =
    above_reply explanation (in_force_past_by meanings in_force w event) (final_world meanings w event).plan
    (arguments_of_by meanings w event) (event_row meanings w event).1

-- the text above the line of an event that a world meets, given what names mean in this program
abbrev pub above_event : (Refusal → List ℕ) → InForce → World → Event → List ℕ
above_event explanation in_force w event = above_event_by standard_meanings explanation in_force w event

-- the text above the line of a `show`, given whether the `show` is refused because no channel has the number
abbrev pub above_show : (Refusal → List ℕ) → Bool → List ℕ
above_show explanation refused = if refused then indented_text (explanation NoChannel) else []

-- the text above the line of a turn, given what names mean
abbrev pub above_turn_by : Meanings → (Refusal → List ℕ) → InForce → World → Turn → List ℕ
above_turn_by meanings explanation in_force w (turn_event event) = above_event_by meanings explanation in_force w event
above_turn_by meanings explanation in_force w (Show number name) = above_show explanation (is_none (phase_at w number))

-- the dialplan in force after a turn, given what names mean
abbrev pub in_force_after_by : Meanings → InForce → World → Turn → InForce
in_force_after_by meanings in_force w (turn_event event) = in_force_past_by meanings in_force w event
in_force_after_by meanings in_force w (Show number name) = in_force

-- how a turn changes a verbose run and its world: as in a plain run, with more text above the line of the turn
abbrev pub verbose_turn : (Refusal → List ℕ) → InForce × World → Turn → Taken (InForce × World)
verbose_turn explanation at turn =
    record {
      state = (in_force_after_by standard_meanings at.0 at.1 turn, (after_turn at.1 turn).world);
      lines = above_turn_by standard_meanings explanation at.0 at.1 turn ++ (after_turn at.1 turn).line;
      refused = (after_turn at.1 turn).refused;
    }

-- the output and result of a verbose run, given the run or the fault of its texts, and the dialplan that is first in force
abbrev pub WritesVerbose : (Refusal → List ℕ) → InForce → Option (List ℕ) → Option (List ℕ) → Result Run PbxFault → Result ℕ PbxFault → Type 0
WritesVerbose explanation in_force old new (Ok run) result =
    WritesTurns (verbose_turn explanation) (λ at. []) (in_force, run.world) run.turns old new result
WritesVerbose explanation in_force old new (Err fault) (Ok status) = ⊥
WritesVerbose explanation in_force old new (Err fault) (Err (Coded code line)) = Appends old new [] × (fault ≡ Coded code line)
WritesVerbose explanation in_force old new (Err fault) (Err NoMemory) = Appends old new []

-- the state of a verbose debugged run: that of the debugged run, and the dialplan in force
pub record VerboseWatch : Type 0 where
  pub watch : Watch
  pub in_force : InForce

-- how a turn changes a verbose debugged run and its world: as in a debugged run, with more text above the line of an event
abbrev pub verbose_debug_turn : (Refusal → List ℕ) → VerboseWatch × World → Turn → Taken (VerboseWatch × World)
verbose_debug_turn explanation at (turn_event event) =
    record {
      state = (
        record { watch = record { held = at.0.watch.held; taken = one_more at.0.watch.taken }; in_force = in_force_past at.0.in_force at.1 event },
        final_world standard_meanings at.1 event,
      );
      lines = halt_text (is_some (first_before at.1 event (at.0.watch.held ∷ []))) at.0.watch.taken
          ++ (above_event explanation at.0.in_force at.1 event ++ event_line at.1 event);
      refused = is_refused (event_row standard_meanings at.1 event).1;
    }
verbose_debug_turn explanation at (Show number name) = record { state = at; lines = []; refused = false }

-- the last line of a verbose debugged run
abbrev pub verbose_end : VerboseWatch → List ℕ
verbose_end at = end_text at.watch

-- the status of a debugged run: 1 if an event was refused
abbrev pub debug_status : DebugRun → ℕ
debug_status debug = status_by (refused_in debug_turn (watching debug) debug.run.turns)

-- a run, debugged with a break, or the fault of the run's texts
abbrev pub debug_with : Break → Result Run PbxFault → Result DebugRun PbxFault
debug_with held given = given >>= λ run. Ok (debug_on held run)

-- the state before the first event
abbrev pub verbose_watching : InForce → DebugRun → VerboseWatch × World
verbose_watching in_force debug = (record { watch = record { held = debug.held; taken = 0 }; in_force = in_force }, debug.run.world)

-- the output and result of a verbose debugged run, given the run or the fault of its texts, and the dialplan that is first in force
abbrev pub WritesVerboseDebug : (Refusal → List ℕ) → InForce → Option (List ℕ) → Option (List ℕ) → Result DebugRun PbxFault → Result ℕ PbxFault → Type 0
WritesVerboseDebug explanation in_force old new (Ok debug) result =
    WritesTurns (verbose_debug_turn explanation) (λ at. verbose_end at.0) (verbose_watching in_force debug) debug.run.turns old new result
WritesVerboseDebug explanation in_force old new (Err fault) (Ok status) = ⊥
WritesVerboseDebug explanation in_force old new (Err fault) (Err (Coded code line)) = Appends old new [] × (fault ≡ Coded code line)
WritesVerboseDebug explanation in_force old new (Err fault) (Err NoMemory) = Appends old new []
