-- Targets, steps and events, whose replies are computed from the definitions themselves.
use Rattle.std.proofs.Common.{◌≡◌, ℕ, Bool, true, false, List, [], ◌∷◌, Option, Some, None, refl}
use Rattle.std.specs.FinMap.{empty, insert}
use Rattle.std.specs.Prelude.{codes}
use Rattle.dp_conf.specs.GroupsRead.{reading_of, levels}
use Rattle.dp_conf.specs.Levels.{cut_outside}
use Rattle.dp_lookup.specs.FoundEntry.{found_entry, found_label}
use Rattle.dp_lookup.specs.SearchOrder.{visit}
use Rattle.dp_pattern.specs.Name.{Plain}
use Rattle.dp_plan.specs.Plan.{PlanOf}
use Rattle.dp_plan.specs.declared.entry.Entry.{Entry}
use Rattle.dp_vars.specs.Stores.{nothing, set}
use Rattle.dp_vars.specs.Values.{expansion_of_with, group_value_with, head_value_with}
use Rattle.dp_app.specs.Rows.{Meanings, Row, with_standard_functions}
use Rattle.dp_app.specs.Tables.{no_rows, with_row}
use Rattle.dp_app.specs.declared.moves.Move.TheVariants.{Next, Jump, Park}
use Rattle.dp_app.specs.declared.target.Target.TheVariants.{To, Existing, Parts}
use Rattle.dp_app.specs.declared.phase.Phase.{Phase}
use Rattle.dp_app.specs.declared.phase.Phase.TheVariants.{Ready, Pause, Ended as phase_ended}
use Rattle.dp_app.specs.declared.place.Place.{Place}
use Rattle.dp_machine.specs.Channels.{hung_up}
use Rattle.dp_machine.specs.Events.{Own, event_row, start_call, step_row, step_without_entry}
use Rattle.dp_machine.specs.Found.{entry_found, is_found, label_found}
use Rattle.dp_machine.specs.Replay.{replies_to}
use Rattle.dp_machine.specs.Seen.{arguments_seen, globals_of}
use Rattle.dp_machine.specs.Targets.{parts_place, target_place}
use Rattle.dp_machine.specs.World.{World, channel_at, opening, value_in, world_of}
use Rattle.dp_machine.specs.declared.channel.Channel.{Channel}
use Rattle.dp_machine.specs.declared.event.Event.TheVariants.{Start, Step}
use Rattle.dp_machine.specs.declared.refusal.Refusal.TheVariants.{NoChannel, NotReady, Ended}
use Rattle.dp_machine.specs.declared.reply.Reply.TheVariants.{Started, Ran, Invalid, NoEntry, Refused}
use Rattle.dp_machine.specs.declared.shared_state.SharedState.{SharedState}

-- an entry of a plain name
abbrev entry : List ℕ → ℕ → Option (List ℕ) → List ℕ → List ℕ → Entry
entry name priority label application arguments =
    record { name = Plain name; priority = priority; label = label; application = application; arguments = arguments }

-- two contexts: `main` has the extensions `i` and `h`, and `bare` has neither
abbrev plan : PlanOf
plan = record {
  globals = [];
  contexts = (record {
    name = codes "main";
    entries =
        entry (codes "100") 1 None (codes "Call") (codes "5${CALLERID(num)}")
        ∷ entry (codes "100") 2 None (codes "goto") (codes "end")
        ∷ entry (codes "100") 3 (Some (codes "end")) (codes "Wait") []
        ∷ entry (codes "200") 1 None (codes "Goto") (codes "4")
        ∷ entry (codes "200") 2 (Some (codes "end")) (codes "Goto") (codes "away")
        ∷ entry (codes "200") 4 None (codes "Unknown") []
        ∷ entry (codes "i") 1 None (codes "Wait") []
        ∷ entry (codes "h") 1 None (codes "Goto") [] ∷ [];
    includes = [];
  }) ∷ (record {
    name = codes "bare";
    entries = entry (codes "100") 1 None (codes "Goto") (codes "away") ∷ [];
    includes = [];
  }) ∷ [];
}

-- a place in `main`
abbrev at : List ℕ → ℕ → Place
at exten priority = record { context = codes "main"; exten = exten; priority = priority }

-- a place in `bare`
abbrev bare : List ℕ → ℕ → Place
bare exten priority = record { context = codes "bare"; exten = exten; priority = priority }

-- targets of a channel at priority 1 of `100` in `main`

target-own_parts : target_place plan (at (codes "100") 1) (Parts (codes "2" ∷ [])) ≡ Some (at (codes "100") 2)
unfolding parts_place
target-own_parts = refl

target-exten : target_place plan (at (codes "100") 1) (Parts (codes "7" ∷ codes "003" ∷ [])) ≡ Some (at (codes "7") 3)
unfolding parts_place
target-exten = refl

-- an empty part is the channel's own
target-empty_exten : target_place plan (at (codes "100") 1) (Parts (codes "out" ∷ [] ∷ codes "3" ∷ [])) ≡
    Some (record { context = codes "out"; exten = codes "100"; priority = 3 })
unfolding parts_place
target-empty_exten = refl

target-empty_context : target_place plan (at (codes "100") 1) (Parts ([] ∷ codes "200" ∷ codes "3" ∷ [])) ≡ Some (at (codes "200") 3)
unfolding parts_place
target-empty_context = refl

target-empty_priority : target_place plan (at (codes "100") 1) (Parts (codes "200" ∷ [] ∷ [])) ≡ None
unfolding parts_place
target-empty_priority = refl

target-zero : target_place plan (at (codes "100") 1) (Parts (codes "0" ∷ [])) ≡ None
unfolding parts_place
target-zero = refl

-- a place where no entry can be
target-greatest : target_place plan (at (codes "100") 1) (Parts (codes "2147483648" ∷ [])) ≡ Some (at (codes "100") 2147483648)
unfolding parts_place
target-greatest = refl

target-above : target_place plan (at (codes "100") 1) (Parts (codes "2147483649" ∷ [])) ≡ None
unfolding parts_place
target-above = refl

target-four_parts : target_place plan (at (codes "100") 1) (Parts (codes "a" ∷ codes "b" ∷ codes "1" ∷ codes "1" ∷ [])) ≡ None
unfolding parts_place
target-four_parts = refl

target-no_part : target_place plan (at (codes "100") 1) (Parts []) ≡ None
unfolding parts_place
target-no_part = refl

-- a label is looked up in the target's own extension
target-label : target_place plan (at (codes "100") 1) (Parts (codes "end" ∷ [])) ≡ Some (at (codes "100") 3)
unfolding parts_place label_found found_label visit
target-label = refl

target-label_there : target_place plan (at (codes "100") 1) (Parts (codes "200" ∷ codes "end" ∷ [])) ≡ Some (at (codes "200") 2)
unfolding parts_place label_found found_label visit
target-label_there = refl

target-label_absent : target_place plan (at (codes "100") 1) (Parts (codes "away" ∷ [])) ≡ None
unfolding parts_place label_found found_label visit
target-label_absent = refl

-- a target that must exist
target-existing : target_place plan (at (codes "100") 1) (Existing (codes "200" ∷ codes "4" ∷ [])) ≡ Some (at (codes "200") 4)
unfolding parts_place is_found found_entry visit
target-existing = refl

target-not_existing : target_place plan (at (codes "100") 1) (Existing (codes "200" ∷ codes "3" ∷ [])) ≡ None
unfolding parts_place is_found found_entry visit
target-not_existing = refl

target-place : target_place plan (at (codes "100") 1) (To (bare (codes "9") 5)) ≡ Some (bare (codes "9") 5)
target-place = refl

-- a table of three applications: `Call` makes its arguments the caller's number, `Goto` goes where its arguments say, and `Wait` waits
abbrev call : Row
call arguments cell = record { cell = record cell { caller = arguments }; next = Next }

abbrev goto : Row
goto arguments cell = record { cell = cell; next = Jump (Parts (arguments ∷ [])) }

abbrev wait : Row
wait arguments cell = record { cell = cell; next = Park Pause }

abbrev meanings : Meanings
meanings = with_standard_functions (with_row (codes "Call") call (with_row (codes "Goto") goto (with_row (codes "Wait") wait no_rows)))

-- no globals, and no queues
abbrev blank_shared : SharedState
blank_shared = record { globals = empty; queues = record { queues = []; agents = []; finished = 0 } }

-- a call from `7` without variables
abbrev channel : Place → Phase → Bool → Channel
channel place phase closing = record { place = place; phase = phase; is_closing = closing; caller = codes "7"; store = nothing }

-- a step of channel 1
abbrev step : Channel → Own
step c = step_row meanings plan blank_shared 1 c

-- arguments are expanded for the channel, and the application changes the channel
step-next : step (channel (at (codes "100") 1) Ready false) ≡
    record { channel = record (channel (at (codes "100") 2) Ready false) { caller = codes "57" }; shared = blank_shared; reply = Ran (record { context = 0; entry = 0 }) }
unfolding step_row entry_found found_entry visit arguments_seen reading_of levels expansion_of_with group_value_with head_value_with cut_outside
step-next = refl

-- names of applications are compared in any ASCII case
step-jump : step (channel (at (codes "100") 2) Ready false) ≡
    record { channel = channel (at (codes "100") 3) Ready false; shared = blank_shared; reply = Ran (record { context = 0; entry = 1 }) }
unfolding step_row entry_found found_entry visit arguments_seen reading_of levels expansion_of_with parts_place label_found found_label
step-jump = refl

step-park : step (channel (at (codes "100") 3) Ready false) ≡
    record { channel = channel (at (codes "100") 3) Pause false; shared = blank_shared; reply = Ran (record { context = 0; entry = 2 }) }
unfolding step_row entry_found found_entry visit arguments_seen reading_of levels expansion_of_with
step-park = refl

-- a target that does not exist is a hang-up, which continues at `h`
step-no_target : step (channel (at (codes "200") 2) Ready false) ≡
    record { channel = channel (at (codes "h") 1) Ready true; shared = blank_shared; reply = Ran (record { context = 0; entry = 4 }) }
unfolding step_row entry_found found_entry visit arguments_seen reading_of levels expansion_of_with parts_place label_found found_label hung_up is_found
step-no_target = refl

-- and so is an application that the table lacks
step-unknown : step (channel (at (codes "200") 4) Ready false) ≡
    record { channel = channel (at (codes "h") 1) Ready true; shared = blank_shared; reply = Ran (record { context = 0; entry = 5 }) }
unfolding step_row entry_found found_entry visit arguments_seen reading_of levels expansion_of_with hung_up is_found
step-unknown = refl

-- a channel that is closing is over after a hang-up
step-closing : step (channel (at (codes "h") 1) Ready true) ≡
    record { channel = channel (at (codes "h") 1) phase_ended true; shared = blank_shared; reply = Ran (record { context = 0; entry = 7 }) }
unfolding step_row entry_found found_entry visit arguments_seen reading_of levels expansion_of_with parts_place label_found found_label hung_up is_found
step-closing = refl

-- and so is one whose context has no `h`
step-no_h : step (channel (bare (codes "100") 1) Ready false) ≡
    record { channel = channel (bare (codes "100") 1) phase_ended false; shared = blank_shared; reply = Ran (record { context = 1; entry = 0 }) }
unfolding step_row entry_found found_entry visit arguments_seen reading_of levels expansion_of_with parts_place label_found found_label hung_up is_found
step-no_h = refl

-- an extension that does not exist leads to `i`, which reads what was dialled
step-invalid : step (channel (at (codes "9") 1) Ready false) ≡
    record {
      channel = record (channel (at (codes "i") 1) Ready false) { store = record { variables = insert empty (codes "INVALID_EXTEN") (codes "9"); frames = []; names = codes "INVALID_EXTEN" ∷ [] } };
      shared = blank_shared;
      reply = Invalid;
    }
unfolding step_row entry_found found_entry visit step_without_entry is_found set
step-invalid = refl

-- a priority that does not exist is a hang-up
step-no_priority : step (channel (at (codes "200") 3) Ready false) ≡
    record { channel = channel (at (codes "h") 1) Ready true; shared = blank_shared; reply = NoEntry }
unfolding step_row entry_found found_entry visit step_without_entry is_found hung_up
step-no_priority = refl

-- and so is an extension that does not exist, in a context without `i`
step-no_i : step (channel (bare (codes "9") 1) Ready false) ≡
    record { channel = channel (bare (codes "9") 1) phase_ended false; shared = blank_shared; reply = NoEntry }
unfolding step_row entry_found found_entry visit step_without_entry is_found hung_up
step-no_i = refl

step-not_ready : step (channel (at (codes "100") 1) Pause false) ≡
    record { channel = channel (at (codes "100") 1) Pause false; shared = blank_shared; reply = Refused NotReady }
unfolding step_row
step-not_ready = refl

step-ended : step (channel (at (codes "100") 1) phase_ended false) ≡
    record { channel = channel (at (codes "100") 1) phase_ended false; shared = blank_shared; reply = Refused Ended }
unfolding step_row
step-ended = refl

-- a world with one call, at priority 2 of `100`
abbrev first : Channel
first = channel (at (codes "100") 2) Ready false

abbrev world : World
world = world_of plan (first ∷ []) blank_shared

-- channels are numbered from 1
channel-zero : channel_at (first ∷ []) 0 ≡ None
channel-zero = refl

channel-first : channel_at (first ∷ []) 1 ≡ Some first
channel-first = refl

channel-above : channel_at (first ∷ []) 2 ≡ None
channel-above = refl

-- a call that comes in gets the next number, and is at priority 1
event-start : event_row meanings world (Start (codes "main") (codes "2") (codes "7")) ≡
    (world_of plan (first ∷ channel (at (codes "2") 1) Ready false ∷ []) blank_shared, Started 2)
unfolding start_call
event-start = refl

event-step : event_row meanings world (Step 1) ≡
    (world_of plan (channel (at (codes "100") 3) Ready false ∷ []) blank_shared, Ran (record { context = 0; entry = 1 }))
unfolding step_row entry_found found_entry visit arguments_seen reading_of levels expansion_of_with parts_place label_found found_label
event-step = refl

event-no_channel : event_row meanings world (Step 2) ≡ (world, Refused NoChannel)
event-no_channel = refl

value-no_channel : value_in world 2 (codes "EXTEN") ≡ []
value-no_channel = refl

-- a call from its start until its application sends it nowhere, and one more step
replies-first_run : replies_to meanings (opening plan blank_shared.queues) (Start (codes "bare") (codes "100") [] ∷ Step 1 ∷ Step 1 ∷ []) ≡
    Started 1 ∷ Ran (record { context = 1; entry = 0 }) ∷ Refused Ended ∷ []
unfolding start_call step_row entry_found found_entry visit arguments_seen reading_of levels expansion_of_with parts_place label_found found_label hung_up is_found globals_of
replies-first_run = refl
