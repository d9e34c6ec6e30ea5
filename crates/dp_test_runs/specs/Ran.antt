-- What a list of events runs: the entries of the dialplan, each with its arguments as they expand in the world that its event meets, and after
-- an `ExecIf` the call of the side that it takes.
use Rattle.std.specs.Prelude.{ℕ, zero, suc, true, false, List, [], ◌∷◌, ◌++◌, map, Option, Some, None, slice_get, if◌then◌else◌}
use Rattle.std.specs.Option.{option_map_or}
use Rattle.dp_conf.specs.Words.{same_word}
use Rattle.dp_plan.specs.Lookup.{entry_at}
use Rattle.dp_plan.specs.Plan.{PlanOf}
use Rattle.dp_plan.specs.declared.entry.Entry.{Entry}
use Rattle.dp_plan.specs.declared.entry.EntryId.{EntryId}
use Rattle.dp_machine.specs.Events.{channel_of, event_row}
use Rattle.dp_machine.specs.Replay.{final_world}
use Rattle.dp_machine.specs.World.{World}
use Rattle.dp_machine.specs.declared.event.Event.{Event}
use Rattle.dp_machine.specs.declared.reply.Reply.{Reply}
use Rattle.dp_machine.specs.declared.reply.Reply.TheVariants.{Started, Ran, Invalid, NoEntry, Offered, Done, Refused}
use Rattle.dp_commands.specs.Verbose.{arguments_of_by}
use Rattle.dp_wide.specs.Choices.{exec_if_application, exec_if_title}
use Rattle.dp_wide_runs.specs.Turns.{wide_meanings}
use Rattle.dp_test_runs.specs.declared.ran_entries.RanEntry.{RanEntry}

-- ---- what an entry runs inside its own call

-- the call that an application runs in turn with these arguments: `ExecIf` runs that of the side that is taken
unfoldable pub call_in : List ℕ × List ℕ → Option (List ℕ × List ℕ)
call_in call = if same_word call.0 exec_if_title then exec_if_application call.1 else None

-- a call, if there is one, and those that it leads to
abbrev pub call_and : Option (List ℕ × List ℕ) → (List ℕ × List ℕ → List (List ℕ × List ℕ)) → List (List ℕ × List ℕ)
call_and None later = []
call_and (Some call) later = call ∷ later call

-- the calls that a call runs, one inside the other, if so many may
abbrev pub calls_within : ℕ → List ℕ × List ℕ → List (List ℕ × List ℕ)
calls_within zero call = []
calls_within (suc left) call = call_and (call_in call) (calls_within left)

-- a call that an entry ran inside its own
abbrev pub side_ran : RanEntry → List ℕ × List ℕ → RanEntry
side_ran ran call = record ran { application = call.0; arguments = call.1; is_side = true }

-- the calls that an entry ran inside its own, if so many may run inside each other
unfoldable pub sides_within : ℕ → RanEntry → List ℕ × List ℕ → List RanEntry
sides_within left ran call = map (side_ran ran) (calls_within left call)

-- the greatest number of calls inside that of an entry: an `ExecIf` inside 8 others ends the call
abbrev pub most_sides : ℕ
most_sides = 8

-- the calls that an entry ran inside its own
unfoldable pub sides_of : RanEntry → List RanEntry
sides_of ran = sides_within most_sides ran (ran.application, ran.arguments)

-- ---- entries

-- an entry of a context that a channel ran with these arguments
abbrev pub entry_ran : ℕ → EntryId → List ℕ → List ℕ → Entry → RanEntry
entry_ran channel id context arguments entry =
    record {
      channel = channel;
      id = id;
      context = context;
      name = entry.name;
      priority = entry.priority;
      application = entry.application;
      arguments = arguments;
      is_side = false;
    }

-- an entry that ran, and the calls inside its own
abbrev pub with_sides : RanEntry → List RanEntry
with_sides ran = ran ∷ sides_of ran

-- an entry of a context that a channel ran with these arguments, if there is one, with the calls inside its own
abbrev pub ran_of : ℕ → EntryId → List ℕ → List ℕ → Option Entry → List RanEntry
ran_of channel id context arguments None = []
ran_of channel id context arguments (Some entry) = with_sides (entry_ran channel id context arguments entry)

-- the name of the context with a number; empty if there is none
abbrev pub context_name : PlanOf → ℕ → List ℕ
context_name plan number = option_map_or (λ context. context.name) (slice_get plan.contexts number) []

-- the entry of a dialplan with these numbers, which a channel ran with these arguments
unfoldable pub ran_at : PlanOf → ℕ → EntryId → List ℕ → List RanEntry
ran_at plan channel id arguments = ran_of channel id (context_name plan id.context) arguments (entry_at plan id)

-- what was run, by the reply
abbrev pub ran_told : PlanOf → ℕ → List ℕ → Reply → List RanEntry
ran_told plan channel arguments (Ran id) = ran_at plan channel id arguments
ran_told plan channel arguments (Started number) = []
ran_told plan channel arguments Invalid = []
ran_told plan channel arguments NoEntry = []
ran_told plan channel arguments (Offered number rung) = []
ran_told plan channel arguments Done = []
ran_told plan channel arguments (Refused refusal) = []

-- what an event runs in the world that it meets
unfoldable pub ran_by : World → Event → List RanEntry
ran_by w event =
    ran_told (final_world wide_meanings w event).plan (channel_of event) (arguments_of_by wide_meanings w event) (event_row wide_meanings w event).1

-- what events run, one after another
abbrev pub ran_after : World → List Event → List RanEntry
ran_after w [] = []
ran_after w (event ∷ events) = ran_by w event ++ ran_after (final_world wide_meanings w event) events
