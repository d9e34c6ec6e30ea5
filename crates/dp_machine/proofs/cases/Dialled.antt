-- Events of a channel that waits for the result of its call to devices, and events from outside: a reload, a name that is set, and a
-- redirection. Their replies are computed from the definitions themselves.
use Rattle.std.proofs.Common.{◌≡◌, ℕ, Bool, true, false, List, [], ◌∷◌, None, Some, refl}
use Rattle.std.specs.FinMap.{empty, insert}
use Rattle.std.specs.Prelude.{codes}
use Rattle.std.specs.Str.{byte}
use Rattle.dp_lookup.specs.FoundEntry.{found_entry}
use Rattle.dp_lookup.specs.SearchOrder.{visit}
use Rattle.dp_pattern.specs.Name.{Plain}
use Rattle.dp_plan.specs.Plan.{PlanOf}
use Rattle.dp_plan.specs.declared.entry.Entry.{Entry}
use Rattle.dp_vars.specs.Stores.{nothing, set}
use Rattle.dp_app.specs.Tables.{no_meanings}
use Rattle.dp_app.specs.declared.phase.Phase.{Phase}
use Rattle.dp_app.specs.declared.phase.Phase.TheVariants.{Ready, Pause, Dialling, Ended as over}
use Rattle.dp_app.specs.declared.place.Place.{Place}
use Rattle.dp_machine.specs.Channels.{hung_up}
use Rattle.dp_machine.specs.Events.{assign_row, dial_result_row, digit_row, event_row, hang_up_row, poll_row, redirect_row, timeout_row}
use Rattle.dp_machine.specs.Found.{is_found}
use Rattle.dp_vars.specs.Values.{standard_functions}
use Rattle.dp_machine.specs.Reloading.{reloaded_by}
use Rattle.dp_machine.specs.World.{World, world_of}
use Rattle.dp_machine.specs.declared.channel.Channel.{Channel}
use Rattle.dp_machine.specs.declared.dial_status.DialStatus.TheVariants.{Answer, Busy}
use Rattle.dp_machine.specs.declared.event.Event.{Event}
use Rattle.dp_machine.specs.declared.event.Event.TheVariants.{Digit, Timeout, Poll, Hangup, DialResult, Assign, Redirect}
use Rattle.dp_machine.specs.declared.refusal.Refusal.TheVariants.{BadPlan, Ended, NoChannel, NotDialling, NotReady, NotWaiting, NoTimer}
use Rattle.dp_machine.specs.declared.reply.Reply.{Reply}
use Rattle.dp_machine.specs.declared.reply.Reply.TheVariants.{Done, Refused}

-- an entry of a plain name
abbrev entry : List ℕ → ℕ → Entry
entry name priority = record { name = Plain name; priority = priority; label = None; application = codes "Dial"; arguments = codes "Line/5" }

-- a context with the extensions `s` and `h`
abbrev plan : PlanOf
plan = record {
  globals = [];
  contexts = (record { name = codes "main"; entries = entry (codes "s") 1 ∷ entry (codes "s") 2 ∷ entry (codes "h") 1 ∷ []; includes = [] }) ∷ [];
}

-- an empty dialplan
abbrev empty_plan : PlanOf
empty_plan = record { globals = []; contexts = [] }

abbrev at : List ℕ → ℕ → Place
at exten priority = record { context = codes "main"; exten = exten; priority = priority }

-- a channel at a place and in a phase
abbrev channel : Place → Phase → Channel
channel place phase = record { place = place; phase = phase; is_closing = false; caller = codes "7"; store = nothing }

-- a channel that waits for its call to devices, given whether it goes on afterwards and whether it has a timer
abbrev dials : Bool → Bool → Channel
dials goes_on has_timer = channel (at (codes "s") 1) (Dialling goes_on has_timer)

-- the channel with the status of its call to devices
abbrev with_dial_status_of : List ℕ → Channel → Channel
with_dial_status_of status c = record c { store = set nothing (codes "DIALSTATUS") status }

-- the channel that goes on, and the channel that is hung up and runs `h`
abbrev goes : Channel
goes = channel (at (codes "s") 2) Ready

abbrev closes : Channel
closes = record (channel (at (codes "h") 1) Ready) { is_closing = true }

abbrev world : Channel → World
world c = world_of plan (c ∷ []) (record { globals = empty; queues = record { queues = []; agents = []; finished = 0 } })

abbrev after : Channel → Event → World × Reply
after c event = event_row no_meanings (world c) event

result-busy : after (dials false true) (DialResult 1 Busy) ≡ (world (with_dial_status_of (codes "BUSY") goes), Done)
unfolding dial_result_row
result-busy = refl

result-answer : after (dials false true) (DialResult 1 Answer) ≡ (world (with_dial_status_of (codes "ANSWER") closes), Done)
unfolding dial_result_row hung_up is_found found_entry visit set
result-answer = refl

-- with the option `g` it goes on
result-goes_on : after (dials true false) (DialResult 1 Answer) ≡ (world (with_dial_status_of (codes "ANSWER") goes), Done)
unfolding dial_result_row
result-goes_on = refl

result-pause : after (channel (at (codes "s") 1) Pause) (DialResult 1 Busy) ≡ (world (channel (at (codes "s") 1) Pause), Refused NotDialling)
unfolding dial_result_row
result-pause = refl

result-over : after (channel (at (codes "s") 1) over) (DialResult 1 Busy) ≡ (world (channel (at (codes "s") 1) over), Refused Ended)
unfolding dial_result_row
result-over = refl

timeout-with_dial_status_of : after (dials false true) (Timeout 1) ≡ (world (with_dial_status_of (codes "NOANSWER") goes), Done)
unfolding timeout_row
timeout-with_dial_status_of = refl

timeout-untimed : after (dials true false) (Timeout 1) ≡ (world (dials true false), Refused NoTimer)
unfolding timeout_row
timeout-untimed = refl

hangup-cancels : after (dials false true) (Hangup 1) ≡ (world (with_dial_status_of (codes "CANCEL") closes), Done)
unfolding hang_up_row hung_up is_found found_entry visit set
hangup-cancels = refl

-- a digit is not kept
digit-unkept : after (dials false true) (Digit 1 (byte "5")) ≡ (world (dials false true), Done)
unfolding digit_row
digit-unkept = refl

poll-dials : after (dials false true) (Poll 1) ≡ (world (dials false true), Refused NotWaiting)
unfolding poll_row
poll-dials = refl

-- a reload leaves the channels unchanged, and one with a fault leaves everything unchanged
reload-taken : reloaded_by standard_functions (world (dials false true)) (Some empty_plan) ≡ (record (world (dials false true)) { plan = empty_plan }, Done)
reload-taken = refl

reload-refused : reloaded_by standard_functions (world (dials false true)) None ≡ (world (dials false true), Refused BadPlan)
reload-refused = refl

-- a name that is set from outside is the channel's variable, even while the channel waits
assign-variable : after (dials false true) (Assign (Some 1) (codes "A") (codes "5")) ≡
    (world (record (dials false true) { store = set nothing (codes "A") (codes "5") }), Done)
unfolding assign_row
assign-variable = refl

-- without a channel it is a global
assign-global : after goes (Assign None (codes "A") (codes "5")) ≡
    (world_of plan (goes ∷ []) (record { globals = insert empty (codes "A") (codes "5"); queues = record { queues = []; agents = []; finished = 0 } }), Done)
assign-global = refl

assign-ended : after (channel (at (codes "s") 1) over) (Assign (Some 1) (codes "A") (codes "5")) ≡
    (world (channel (at (codes "s") 1) over), Refused Ended)
unfolding assign_row
assign-ended = refl

assign-no_channel : after goes (Assign (Some 2) (codes "A") (codes "5")) ≡ (world goes, Refused NoChannel)
assign-no_channel = refl

-- a channel in a pause goes to the place at once
redirect-paused : after (channel (at (codes "s") 1) Pause) (Redirect 1 (at (codes "9") 3)) ≡ (world (channel (at (codes "9") 3) Ready), Done)
unfolding redirect_row
redirect-paused = refl

redirect-dials : after (dials false true) (Redirect 1 (at (codes "9") 3)) ≡ (world (dials false true), Refused NotReady)
unfolding redirect_row
redirect-dials = refl

redirect-ended : after (channel (at (codes "s") 1) over) (Redirect 1 (at (codes "9") 3)) ≡
    (world (channel (at (codes "s") 1) over), Refused Ended)
unfolding redirect_row
redirect-ended = refl
