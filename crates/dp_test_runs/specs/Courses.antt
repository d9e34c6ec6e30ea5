-- The course of a test: what is known at a line of it, and how its event lines change that.
use Rattle.std.specs.Prelude.{ℕ, ◌||◌, List, [], ◌∷◌, ◌++◌, length, position, fold, Option, Some, None}
use Rattle.std.specs.List.{find}
use Rattle.std.specs.Option.{option_map, option_or}
use Rattle.dp_conf.specs.Words.{same_text}
use Rattle.dp_machine.specs.Events.{event_row}
use Rattle.dp_machine.specs.Replay.{final_world, world_after}
use Rattle.dp_machine.specs.World.{World}
use Rattle.dp_machine.specs.declared.event.Event.{Event}
use Rattle.dp_machine.specs.declared.event.Event.TheVariants.{Reload}
use Rattle.dp_machine.specs.declared.refusal.Refusal.{Refusal}
use Rattle.dp_machine.specs.declared.refusal.Refusal.TheVariants.{BadPlan}
use Rattle.dp_machine.specs.declared.reply.Reply.{Reply}
use Rattle.dp_machine.specs.declared.reply.Reply.TheVariants.{Started, Ran, Invalid, NoEntry, Offered, Done, Refused}
use Rattle.dp_commands.specs.Script.{turns_of}
use Rattle.dp_commands.specs.Trace.{phase_at}
use Rattle.dp_commands.specs.declared.script.ScriptLine.{ScriptLine}
use Rattle.dp_commands.specs.declared.script.Turn.{Turn}
use Rattle.dp_commands.specs.declared.script.Turn.TheVariants.{Event as turn_event, Show}
use Rattle.dp_wide_runs.specs.Given.{given_as}
use Rattle.dp_wide_runs.specs.Turns.{no_stops, pass_refusal, wide_meanings}
use Rattle.dp_wide_runs.specs.declared.wide_turn.WideTurn.{WideTurn}
use Rattle.dp_wide_runs.specs.declared.wide_turn.WideTurn.TheVariants.{Plain, Further, Pass}
use Rattle.dp_test_runs.specs.Ran.{ran_after}
use Rattle.dp_test_runs.specs.Settling.{is_endless, steps_of}
use Rattle.dp_test_runs.specs.declared.course.Course.{Course}
use Rattle.dp_test_runs.specs.declared.course.PlanChange.{PlanChange}
use Rattle.dp_test_runs.specs.declared.named_text.NamedFileText.{NamedFileText}

-- ---- the event of a turn

-- the event that a turn of a plain script gives
abbrev pub event_in : Option Turn → Option Event
event_in None = None
event_in (Some (turn_event event)) = Some event
event_in (Some (Show number name)) = None

-- the event that a turn gives in a world
unfoldable pub event_given : World → WideTurn → Option Event
event_given w turn = event_in (given_as (no_stops, w) turn)

-- why a turn that gives no event is refused: a pass is, since nothing is unknown ahead of its channel
abbrev pub refusal_without : World → WideTurn → Option Refusal
refusal_without w (Plain turn) = None
refusal_without w (Further number) = None
refusal_without w (Pass number) = Some (pass_refusal (phase_at w number))

-- ---- an event with the steps that follow it

-- an event and the steps that follow it
abbrev pub events_with : World → Event → List Event
events_with w event = event ∷ steps_of (final_world wide_meanings w event)

-- the refusal that a reply is
abbrev pub refusal_of : Reply → Option Refusal
refusal_of (Started number) = None
refusal_of (Ran id) = None
refusal_of Invalid = None
refusal_of NoEntry = None
refusal_of (Offered number rung) = None
refusal_of Done = None
refusal_of (Refused refusal) = Some refusal

-- the channel that a reply says was offered to agents
abbrev pub offered_by : Reply → Option ℕ
offered_by (Started number) = None
offered_by (Ran id) = None
offered_by Invalid = None
offered_by NoEntry = None
offered_by (Offered number rung) = Some number
offered_by Done = None
offered_by (Refused refusal) = None

-- the course after an event with the steps that follow it; of several refusals of a line the first is kept
abbrev pub after_event : Course → Event → Course
after_event course event =
    record {
      machine = world_after wide_meanings course.machine (events_with course.machine event);
      ran = course.ran ++ ran_after course.machine (events_with course.machine event);
      refusal = option_or course.refusal (refusal_of (event_row wide_meanings course.machine event).1);
      offered = option_or (offered_by (event_row wide_meanings course.machine event).1) course.offered;
      is_endless = course.is_endless || is_endless (final_world wide_meanings course.machine event);
      changes = course.changes;
    }

-- ---- event lines

abbrev pub with_refusal : Course → Option Refusal → Course
with_refusal course refusal = record course { refusal = option_or course.refusal refusal }

-- the course after a turn, given the event that it gives
abbrev pub after_given : Course → WideTurn → Option Event → Course
after_given course turn None = with_refusal course (refusal_without course.machine turn)
after_given course turn (Some event) = after_event course event

-- the course after a turn
abbrev pub after_turn : Course → WideTurn → Course
after_turn course turn = after_given course turn (event_given course.machine turn)

-- an event line begins with no refusal
abbrev pub at_line : Course → Course
at_line course = record course { refusal = None }

-- the course after an event line with these turns
abbrev pub after_turns : Course → List (ScriptLine WideTurn) → Course
after_turns course lines = fold after_turn (at_line course) (turns_of lines)

-- the text of the file with a name, among the files that the caller has read
abbrev pub text_named : List NamedFileText → List ℕ → Option (List ℕ)
text_named files name = option_map (λ file. file.text) (find (λ file. same_text file.name name) files)

-- the number of that file
abbrev pub number_named : List NamedFileText → List ℕ → Option ℕ
number_named files name = position (λ file. same_text file.name name) files

-- the dialplan of the file with a number is put in force after so many entries ran, unless this is refused
abbrev pub changes_by : Option Refusal → ℕ → Option ℕ → List PlanChange
changes_by (Some refusal) after file = []
changes_by None after None = []
changes_by None after (Some file) = (record { after = after; file = file }) ∷ []

-- the course with this change, given how many entries ran before the reload
abbrev pub with_change : ℕ → Option ℕ → Course → Course
with_change after file course = record course { changes = course.changes ++ changes_by course.refusal after file }

-- the course after a `reload` line, given the number and the text of its file; without a text it is refused as a faulty one is
abbrev pub after_reload : Course → Option ℕ → Option (List ℕ) → Course
after_reload course file None = with_refusal (at_line course) (Some BadPlan)
after_reload course file (Some text) = with_change (length course.ran) file (after_event (at_line course) (Reload text))
