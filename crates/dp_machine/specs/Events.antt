-- How each event changes a world, and the reply to it.
use Rattle.std.specs.Prelude.{ℕ, ◌+◌, Bool, true, false, ◌&&◌, ◌||◌, ◌==◌, nat_lt, nat_le, List, [], ◌∷◌, ◌++◌, length, Option, Some, None, Result, Ok, Err, slice_get, if◌then◌else◌, codes}
use Rattle.std.specs.Option.{option_and_then, option_map, unwrap_or}
use Rattle.dp_plan.specs.Plan.{PlanOf}
use Rattle.dp_plan.specs.declared.entry.EntryId.{EntryId}
use Rattle.dp_queue.specs.Calls.{answer_row, decline_row, done_row, end_talk_row}
use Rattle.dp_queue.specs.Joining.{leave_row, should_leave}
use Rattle.dp_queue.specs.Offers.{offer_row}
use Rattle.dp_queue.specs.Queues.{QueuesOf}
use Rattle.dp_queue.specs.declared.call.Call.{Call}
use Rattle.dp_queue.specs.declared.fault.OfferFault.{OfferFault}
use Rattle.dp_queue.specs.declared.fault.OfferFault.TheVariants.{NoQueue as no_queue, NobodyWaiting as nobody_waiting, NoMember as no_member}
use Rattle.dp_queue.specs.declared.offer.Offered.{Offered as Rung}
use Rattle.std.specs.FinMap.{insert}
use Rattle.dp_vars.specs.Functions.{FunctionTable, SettingTarget, Variable, Global, Local, Caller, Nothing}
use Rattle.dp_vars.specs.Stores.{nothing, set_local}
use Rattle.dp_app.specs.Rows.{Meanings, after_dispatch}
use Rattle.dp_app.specs.Cells.{CellOf}
use Rattle.dp_app.specs.declared.moves.Move.{Move}
use Rattle.dp_app.specs.declared.phase.Phase.{Phase}
use Rattle.dp_app.specs.declared.phase.Phase.TheVariants.{Ready, Digits, Pause, Queued, Talking, Dialling, Ended as phase_ended}
use Rattle.dp_machine.specs.Channels.{ChannelChange, Stays, Talks, TalkEnds, after_cancel, after_change, after_digit, after_dialling, going_on, hung_up, invalid, is_invalid, left_queue, ready_at, timed_out, after_no_answer, after_application, with_value}
use Rattle.dp_machine.specs.Found.{Located, could_go_on, entry_found, is_found}
use Rattle.dp_machine.specs.Reloading.{after_reload}
use Rattle.dp_machine.specs.Seen.{arguments_seen}
use Rattle.dp_machine.specs.Targets.{place_of}
use Rattle.dp_machine.specs.World.{World, most_channels, channel_at, with_channel}
use Rattle.dp_app.specs.declared.place.Place.{Place}
use Rattle.dp_machine.specs.declared.channel.Channel.{Channel}
use Rattle.dp_machine.specs.declared.event.Event.{Event}
use Rattle.dp_machine.specs.declared.event.Event.TheVariants.{Start, Step, Digit, Timeout, Poll, Hangup, DialResult, Offer, Answer, Decline, AgentDone, Reload, Assign, Redirect}
use Rattle.dp_machine.specs.declared.dial_status.DialStatus.{DialStatus}
use Rattle.dp_machine.specs.declared.channel_event.ChannelEvent.{ChannelEvent}
use Rattle.dp_machine.specs.declared.channel_event.ChannelEvent.TheVariants.{Step as asked_step, Digit as asked_digit, Timeout as asked_timeout, Poll as asked_poll, Hangup as asked_hangup, DialResult as asked_result, Assign as asked_assign, Redirect as asked_redirect}
use Rattle.dp_machine.specs.declared.refusal.Refusal.{Refusal}
use Rattle.dp_machine.specs.declared.refusal.Refusal.TheVariants.{NoChannel, NotReady, NotWaiting, NoTimer, NoQueue, NobodyWaiting, NoMember, NotRinging, NotTalking, Ended, NumbersSpent, BadDigit, BadPlan, NotDialling}
use Rattle.dp_machine.specs.declared.reply.Reply.{Reply}
use Rattle.dp_machine.specs.declared.reply.Reply.TheVariants.{Started, Ran, Invalid, NoEntry, Offered, Done, Refused}
use Rattle.dp_machine.specs.declared.shared_state.SharedState.{SharedState}

-- how a channel's event changes the channel and what all channels share, and the reply
pub record Own : Type 0 where
  pub channel : Channel
  pub shared : SharedState
  pub reply : Reply

-- how an incoming phone call changes the channels, and the reply
pub record Entered : Type 0 where
  pub channels : List Channel
  pub reply : Reply

-- how an agent's event changes what all channels share, which channel it changes and how, and the reply
pub record Served : Type 0 where
  pub shared : SharedState
  pub who : ℕ
  pub change : ChannelChange
  pub reply : Reply

-- how an application changes its channel and what all channels share, and where it sends the channel
pub record Applied : Type 0 where
  pub channel : Channel
  pub shared : SharedState
  pub going : Option Move

-- a refused event changes nothing
abbrev pub refuse : Refusal → SharedState → Channel → Own
refuse refusal shared c = record { channel = c; shared = shared; reply = Refused refusal }

-- an event that is taken and results in this channel and this shared part
abbrev pub take_event : SharedState → Channel → Own
take_event shared c = record { channel = c; shared = shared; reply = Done }

-- the shared part with other queues
abbrev pub with_queues : SharedState → QueuesOf → SharedState
with_queues shared queues = record { globals = shared.globals; queues = queues }

-- the shared part with one global set
abbrev pub with_shared_global : SharedState → List ℕ → List ℕ → SharedState
with_shared_global shared name value = record shared { globals = insert shared.globals name value }

-- the shared part after a channel has left its queue: the agents that rang for it are idle
abbrev pub without_caller : SharedState → ℕ → SharedState
without_caller shared number = with_queues shared (leave_row shared.queues number).0

-- the shared part after a channel's talk has ended
abbrev pub without_talk : SharedState → ℕ → SharedState
without_talk shared number = with_queues shared (end_talk_row shared.queues number).0

-- the part of a channel and of what all channels share that an application sees
abbrev pub cell_of : SharedState → ℕ → Channel → CellOf
cell_of shared number c = record {
  number = number;
  place = c.place;
  is_closing = c.is_closing;
  caller = c.caller;
  store = c.store;
  globals = shared.globals;
  queues = shared.queues;
}

-- the channel and the shared part after an application, and where the application sends the channel
abbrev pub application_outcome : Channel → CellOf × Option Move → Applied
application_outcome c after = record {
  channel = record c { caller = after.0.caller; store = after.0.store };
  shared = record { globals = after.0.globals; queues = after.0.queues };
  going = after.1;
}

-- the channel goes where its application sent it
abbrev pub after_run : PlanOf → EntryId → Applied → Own
after_run plan id after = record { channel = after_application plan after.channel after.going; shared = after.shared; reply = Ran id }

-- a step that finds no entry: it goes to the extension `i` if the extension does not exist, else it hangs up
unfoldable pub step_without_entry : PlanOf → SharedState → Channel → Own
step_without_entry plan shared c =
    if is_invalid plan c.place then record { channel = invalid c; shared = shared; reply = Invalid }
    else record { channel = hung_up plan c; shared = shared; reply = NoEntry }

-- a step, given the entry at the channel's place: it runs the entry's application with expanded arguments
abbrev pub step_at : Meanings → PlanOf → SharedState → ℕ → Channel → Option Located → Own
step_at meanings plan shared number c None = step_without_entry plan shared c
step_at meanings plan shared number c (Some found) =
    after_run plan found.id (application_outcome c (after_dispatch (meanings.rows found.entry.application) (arguments_seen meanings.functions shared number c found.entry.arguments) (cell_of shared number c)))

-- a step, given the channel's phase
abbrev pub step_in : Meanings → Phase → PlanOf → SharedState → ℕ → Channel → Own
step_in meanings Ready plan shared number c = step_at meanings plan shared number c (entry_found plan c.place)
step_in meanings (Digits digits is_background) plan shared number c = refuse NotReady shared c
step_in meanings Pause plan shared number c = refuse NotReady shared c
step_in meanings (Queued queue goes_on has_timer) plan shared number c = refuse NotReady shared c
step_in meanings (Talking queue agent goes_on) plan shared number c = refuse NotReady shared c
step_in meanings (Dialling goes_on has_timer) plan shared number c = refuse NotReady shared c
step_in meanings phase_ended plan shared number c = refuse Ended shared c

-- the event `Step`
unfoldable pub step_row : Meanings → PlanOf → SharedState → ℕ → Channel → Own
step_row meanings plan shared number c = step_in meanings c.phase plan shared number c

-- whether a byte is a telephone digit
abbrev pub is_digit : ℕ → Bool
is_digit byte = nat_le 48 byte && nat_le byte 57 || byte == 42 || byte == 35 || nat_le 65 byte && nat_le byte 68

-- a digit for which a channel waits
abbrev pub collect : PlanOf → SharedState → Channel → List ℕ → Bool → Own
collect plan shared c digits is_background = take_event shared (after_digit (could_go_on plan c.place.context digits) c digits is_background)

-- the context in which the digits of channels that wait in the queue with a number are looked up
abbrev pub way_out_of : QueuesOf → ℕ → List ℕ
way_out_of queues queue = unwrap_or (option_map (λ q. q.settings.context) (slice_get queues.queues queue)) []

-- a digit of a channel that waits in a queue: if the queue's context has it the channel leaves and goes there, with its status as it was
abbrev pub way_out : PlanOf → SharedState → ℕ → Channel → ℕ → List ℕ → Own
way_out plan shared number c digit context =
    if is_found plan context (digit ∷ []) 1 then take_event (without_caller shared number) (ready_at c (place_of context (digit ∷ []) 1))
    else take_event shared c

-- a telephone digit, given the channel's phase
abbrev pub dial_in : Phase → ℕ → PlanOf → SharedState → ℕ → Channel → Own
dial_in Ready digit plan shared number c = refuse NotWaiting shared c
dial_in (Digits digits is_background) digit plan shared number c = collect plan shared c (digits ++ digit ∷ []) is_background
dial_in Pause digit plan shared number c = take_event shared c
dial_in (Queued queue goes_on has_timer) digit plan shared number c = way_out plan shared number c digit (way_out_of shared.queues queue)
dial_in (Talking queue agent goes_on) digit plan shared number c = refuse NotWaiting shared c
dial_in (Dialling goes_on has_timer) digit plan shared number c = take_event shared c
dial_in phase_ended digit plan shared number c = refuse Ended shared c

-- whether a channel is over, given its phase
abbrev pub is_over : Phase → Bool
is_over Ready = false
is_over (Digits digits is_background) = false
is_over Pause = false
is_over (Queued queue goes_on has_timer) = false
is_over (Talking queue agent goes_on) = false
is_over (Dialling goes_on has_timer) = false
is_over phase_ended = true

-- the event `Digit`: a byte that is no digit is refused unless the channel is over, whatever it waits for
unfoldable pub digit_row : ℕ → PlanOf → SharedState → ℕ → Channel → Own
digit_row digit plan shared number c =
    if is_over c.phase || is_digit digit then dial_in c.phase digit plan shared number c else refuse BadDigit shared c

-- a channel leaves its queue, and reads why
abbrev pub leave : SharedState → ℕ → Channel → List ℕ → Own
leave shared number c status = take_event (without_caller shared number) (left_queue c status)

-- the end of a channel's time in a queue
abbrev pub time_in_queue : Bool → SharedState → ℕ → Channel → Own
time_in_queue false shared number c = refuse NoTimer shared c
time_in_queue true shared number c = leave shared number c (codes "TIMEOUT")

-- the end of the time of a call to devices
abbrev pub dial_time : Bool → SharedState → Channel → Own
dial_time false shared c = refuse NoTimer shared c
dial_time true shared c = take_event shared (after_no_answer c)

-- the event `Timeout`, given the channel's phase
abbrev pub timeout_in : Phase → PlanOf → SharedState → ℕ → Channel → Own
timeout_in Ready plan shared number c = refuse NotWaiting shared c
timeout_in (Digits digits is_background) plan shared number c = take_event shared (timed_out plan c digits is_background)
timeout_in Pause plan shared number c = take_event shared (going_on c)
timeout_in (Queued queue goes_on has_timer) plan shared number c = time_in_queue has_timer shared number c
timeout_in (Talking queue agent goes_on) plan shared number c = refuse NotWaiting shared c
timeout_in (Dialling goes_on has_timer) plan shared number c = dial_time has_timer shared c
timeout_in phase_ended plan shared number c = refuse Ended shared c

-- the event `Timeout`
unfoldable pub timeout_row : PlanOf → SharedState → ℕ → Channel → Own
timeout_row plan shared number c = timeout_in c.phase plan shared number c

-- a channel asks whether it has to leave its queue
abbrev pub poll_queue : Bool → SharedState → ℕ → Channel → Own
poll_queue false shared number c = take_event shared c
poll_queue true shared number c = leave shared number c (codes "LEAVEEMPTY")

-- the event `Poll`, given the channel's phase
abbrev pub poll_in : Phase → PlanOf → SharedState → ℕ → Channel → Own
poll_in Ready plan shared number c = refuse NotWaiting shared c
poll_in (Digits digits is_background) plan shared number c = refuse NotWaiting shared c
poll_in Pause plan shared number c = refuse NotWaiting shared c
poll_in (Queued queue goes_on has_timer) plan shared number c = poll_queue (should_leave shared.queues queue) shared number c
poll_in (Talking queue agent goes_on) plan shared number c = refuse NotWaiting shared c
poll_in (Dialling goes_on has_timer) plan shared number c = refuse NotWaiting shared c
poll_in phase_ended plan shared number c = refuse Ended shared c

-- the event `Poll`
unfoldable pub poll_row : PlanOf → SharedState → ℕ → Channel → Own
poll_row plan shared number c = poll_in c.phase plan shared number c

-- a hang-up during a call to devices
abbrev pub dial_cancelled : PlanOf → SharedState → Channel → Own
dial_cancelled plan shared c = take_event shared (after_cancel plan c)

-- the event `Hangup`, given the channel's phase: the channel leaves its queue, or its talk or its call to devices ends, and it is hung up
abbrev pub hang_up_in : Phase → PlanOf → SharedState → ℕ → Channel → Own
hang_up_in Ready plan shared number c = take_event shared (hung_up plan c)
hang_up_in (Digits digits is_background) plan shared number c = take_event shared (hung_up plan c)
hang_up_in Pause plan shared number c = take_event shared (hung_up plan c)
hang_up_in (Queued queue goes_on has_timer) plan shared number c = take_event (without_caller shared number) (hung_up plan c)
hang_up_in (Talking queue agent goes_on) plan shared number c = take_event (without_talk shared number) (hung_up plan c)
hang_up_in (Dialling goes_on has_timer) plan shared number c = dial_cancelled plan shared c
hang_up_in phase_ended plan shared number c = refuse Ended shared c

-- the event `Hangup`
unfoldable pub hang_up_row : PlanOf → SharedState → ℕ → Channel → Own
hang_up_row plan shared number c = hang_up_in c.phase plan shared number c

-- the event `DialResult`, given the channel's phase
abbrev pub dial_result_in : Phase → DialStatus → PlanOf → SharedState → ℕ → Channel → Own
dial_result_in Ready status plan shared number c = refuse NotDialling shared c
dial_result_in (Digits digits is_background) status plan shared number c = refuse NotDialling shared c
dial_result_in Pause status plan shared number c = refuse NotDialling shared c
dial_result_in (Queued queue goes_on has_timer) status plan shared number c = refuse NotDialling shared c
dial_result_in (Talking queue agent goes_on) status plan shared number c = refuse NotDialling shared c
dial_result_in (Dialling goes_on has_timer) status plan shared number c = take_event shared (after_dialling plan c status goes_on)
dial_result_in phase_ended status plan shared number c = refuse Ended shared c

-- the event `DialResult`
unfoldable pub dial_result_row : DialStatus → PlanOf → SharedState → ℕ → Channel → Own
dial_result_row status plan shared number c = dial_result_in c.phase status plan shared number c

-- a value that is set from outside, given what its name sets
abbrev pub assign_value : SettingTarget → List ℕ → SharedState → Channel → Own
assign_value (Variable name) value shared c = take_event shared (with_value c name value)
assign_value (Global name) value shared c = take_event (with_shared_global shared name value) c
assign_value (Local name) value shared c = take_event shared (record c { store = set_local c.store name value })
assign_value Caller value shared c = take_event shared (record c { caller = value })
assign_value Nothing value shared c = take_event shared c

-- the event `Assign` with a channel: a channel that is over keeps its values
unfoldable pub assign_row : FunctionTable → List ℕ → List ℕ → PlanOf → SharedState → ℕ → Channel → Own
assign_row functions name value plan shared number c =
    if is_over c.phase then refuse Ended shared c else assign_value (functions.target name) value shared c

-- the event `Redirect`, given the channel's phase: a channel that waits for an agent or a far side, or talks, is refused
abbrev pub redirect_in : Phase → Place → PlanOf → SharedState → ℕ → Channel → Own
redirect_in Ready place plan shared number c = take_event shared (ready_at c place)
redirect_in (Digits digits is_background) place plan shared number c = take_event shared (ready_at c place)
redirect_in Pause place plan shared number c = take_event shared (ready_at c place)
redirect_in (Queued queue goes_on has_timer) place plan shared number c = refuse NotReady shared c
redirect_in (Talking queue agent goes_on) place plan shared number c = refuse NotReady shared c
redirect_in (Dialling goes_on has_timer) place plan shared number c = refuse NotReady shared c
redirect_in phase_ended place plan shared number c = refuse Ended shared c

-- the event `Redirect`
unfoldable pub redirect_row : Place → PlanOf → SharedState → ℕ → Channel → Own
redirect_row place plan shared number c = redirect_in c.phase place plan shared number c

-- an event of one channel, given what it asks
abbrev pub own_row : Meanings → ChannelEvent → PlanOf → SharedState → ℕ → Channel → Own
own_row meanings asked_step = step_row meanings
own_row meanings (asked_digit digit) = digit_row digit
own_row meanings asked_timeout = timeout_row
own_row meanings asked_poll = poll_row
own_row meanings asked_hangup = hang_up_row
own_row meanings (asked_result status) = dial_result_row status
own_row meanings (asked_assign name value) = assign_row meanings.functions name.now value.now
own_row meanings (asked_redirect place) = redirect_row place.now

-- a new channel at a place, opened by a phone call
abbrev pub new_channel : List ℕ → List ℕ → List ℕ → Channel
new_channel context exten caller = record {
  place = place_of context exten 1;
  phase = Ready;
  is_closing = false;
  caller = caller;
  store = nothing;
}

-- the event `Start`
unfoldable pub start_call : List Channel → List ℕ → List ℕ → List ℕ → Entered
start_call channels context exten caller =
    if nat_lt (length channels) most_channels
    then (record { channels = channels ++ new_channel context exten caller ∷ []; reply = Started (length channels + 1) })
    else (record { channels = channels; reply = Refused NumbersSpent })

-- an event of an agent that changes no channel, or that is refused
abbrev pub serve_no_channel : SharedState → Reply → Served
serve_no_channel shared reply = record { shared = shared; who = 0; change = Stays; reply = reply }

-- the refusal of an offer
abbrev pub offer_refusal : OfferFault → Refusal
offer_refusal no_queue = NoQueue
offer_refusal nobody_waiting = NobodyWaiting
offer_refusal no_member = NoMember

-- the reply to an offer
abbrev pub offer_reply : Result Rung OfferFault → Reply
offer_reply (Ok serve_offer) = Offered serve_offer.channel serve_offer.rung
offer_reply (Err fault) = Refused (offer_refusal fault)

-- the event `Offer`
unfoldable pub serve_offer : SharedState → List ℕ → Served
serve_offer shared queue =
    serve_no_channel (with_queues shared (offer_row shared.queues queue).0) (offer_reply (offer_row shared.queues queue).1)

-- an agent and a channel begin to talk
abbrev pub begin_talk : SharedState → Option Call → Served
begin_talk shared None = serve_no_channel shared (Refused NotRinging)
begin_talk shared (Some call) = record { shared = shared; who = call.channel; change = Talks call.queue call.agent; reply = Done }

-- the event `Answer`
unfoldable pub serve_answer : SharedState → List ℕ → Served
serve_answer shared agent = begin_talk (with_queues shared (answer_row shared.queues agent).0) (answer_row shared.queues agent).1

-- the event `Decline`
unfoldable pub serve_decline : SharedState → List ℕ → Served
serve_decline shared agent =
    serve_no_channel (with_queues shared (decline_row shared.queues agent).0) (if (decline_row shared.queues agent).1 then Done else Refused NotRinging)

-- an agent and a channel end their talk
abbrev pub end_talk : SharedState → Option Call → Served
end_talk shared None = serve_no_channel shared (Refused NotTalking)
end_talk shared (Some call) = record { shared = shared; who = call.channel; change = TalkEnds; reply = Done }

-- the event `AgentDone`
unfoldable pub agent_done : SharedState → List ℕ → Served
agent_done shared agent = end_talk (with_queues shared (done_row shared.queues agent).0) (done_row shared.queues agent).1

-- the world after an incoming phone call, and the reply
abbrev pub world_with_call : World → Entered → World × Reply
world_with_call w e = (record w { channels = e.channels }, e.reply)

-- the world after a channel's event, and the reply
abbrev pub world_with_own : World → ℕ → Own → World × Reply
world_with_own w number own = (record w { channels = with_channel w.channels number own.channel; shared = own.shared }, own.reply)

-- a channel's event reads the dialplan, what all channels share and its own channel, and changes the last two
abbrev pub own_event : World → ℕ → (PlanOf → SharedState → ℕ → Channel → Own) → Option Channel → World × Reply
own_event w number row None = (w, Refused NoChannel)
own_event w number row (Some c) = world_with_own w number (row w.plan w.shared number c)

-- the world after an event of the channel with a number, given what the event asks, and the reply
abbrev pub asked_event : Meanings → World → ℕ → ChannelEvent → World × Reply
asked_event meanings w number asked = own_event w number (own_row meanings asked) (channel_at w.channels number)

-- the channels after an agent's event
abbrev pub served_channels : World → Served → Option Channel → List Channel
served_channels w s None = w.channels
served_channels w s (Some c) = with_channel w.channels s.who (after_change w.plan s.change c)

-- the world after an agent's event, and the reply: what all channels share decides the reply and which channel changes
abbrev pub agent_event : World → Served → World × Reply
agent_event w s = (record w { channels = served_channels w s (channel_at w.channels s.who); shared = s.shared }, s.reply)

-- a global that is set from outside
abbrev pub global_assigned : World → List ℕ → List ℕ → World × Reply
global_assigned w name value = (record w { shared = with_shared_global w.shared name value }, Done)

-- the event `Assign`: of a channel, or of a global
abbrev pub assign_event : FunctionTable → World → Option ℕ → List ℕ → List ℕ → World × Reply
assign_event functions w None name value = global_assigned w name value
assign_event functions w (Some number) name value = own_event w number (assign_row functions name value) (channel_at w.channels number)

-- the world after an event, and the reply
abbrev pub event_row : Meanings → World → Event → World × Reply
event_row meanings w (Start context exten caller) = world_with_call w (start_call w.channels context exten caller)
event_row meanings w (Step number) = own_event w number (step_row meanings) (channel_at w.channels number)
event_row meanings w (Digit number digit) = own_event w number (digit_row digit) (channel_at w.channels number)
event_row meanings w (Timeout number) = own_event w number timeout_row (channel_at w.channels number)
event_row meanings w (Poll number) = own_event w number poll_row (channel_at w.channels number)
event_row meanings w (Hangup number) = own_event w number hang_up_row (channel_at w.channels number)
event_row meanings w (DialResult number status) = own_event w number (dial_result_row status) (channel_at w.channels number)
event_row meanings w (Offer queue) = agent_event w (serve_offer w.shared queue)
event_row meanings w (Answer agent) = agent_event w (serve_answer w.shared agent)
event_row meanings w (Decline agent) = agent_event w (serve_decline w.shared agent)
event_row meanings w (AgentDone agent) = agent_event w (agent_done w.shared agent)
event_row meanings w (Reload text) = after_reload meanings.functions w text
event_row meanings w (Assign channel name value) = assign_event meanings.functions w channel name value
event_row meanings w (Redirect number place) = own_event w number (redirect_row place) (channel_at w.channels number)

-- the entry that the next step of a channel would run, given its phase
abbrev pub next_in : Phase → PlanOf → Channel → Option EntryId
next_in Ready plan c = option_map (λ found. found.id) (entry_found plan c.place)
next_in (Digits digits is_background) plan c = None
next_in Pause plan c = None
next_in (Queued queue goes_on has_timer) plan c = None
next_in (Talking queue agent goes_on) plan c = None
next_in (Dialling goes_on has_timer) plan c = None
next_in phase_ended plan c = None

-- the entry that the next step of the channel with a number would run
abbrev pub next_entry : World → ℕ → Option EntryId
next_entry w number = option_and_then (λ c. next_in c.phase w.plan c) (channel_at w.channels number)

-- the entry at a channel's place if its next step would run it
abbrev pub located_in : Phase → PlanOf → Channel → Option Located
located_in Ready plan c = entry_found plan c.place
located_in (Digits digits is_background) plan c = None
located_in Pause plan c = None
located_in (Queued queue goes_on has_timer) plan c = None
located_in (Talking queue agent goes_on) plan c = None
located_in (Dialling goes_on has_timer) plan c = None
located_in phase_ended plan c = None

-- the expanded arguments of the entry that the next step of a channel would run
abbrev pub arguments_in : FunctionTable → World → ℕ → Channel → Option (List ℕ)
arguments_in functions w number c =
    option_map (λ found. arguments_seen functions w.shared number c found.entry.arguments) (located_in c.phase w.plan c)

-- the expanded arguments of the entry that the next step of the channel with a number would run
abbrev pub arguments_ahead : FunctionTable → World → ℕ → Option (List ℕ)
arguments_ahead functions w number = option_and_then (λ c. arguments_in functions w number c) (channel_at w.channels number)

-- the channel that an event names; 0, which no channel has, if it names none
abbrev pub channel_of : Event → ℕ
channel_of (Start context exten caller) = 0
channel_of (Step number) = number
channel_of (Digit number digit) = number
channel_of (Timeout number) = number
channel_of (Poll number) = number
channel_of (Hangup number) = number
channel_of (DialResult number status) = number
channel_of (Offer queue) = 0
channel_of (Answer agent) = 0
channel_of (Decline agent) = 0
channel_of (AgentDone agent) = 0
channel_of (Reload text) = 0
channel_of (Assign channel name value) = unwrap_or channel 0
channel_of (Redirect number place) = number

-- whether a reply is a refusal
abbrev pub is_refused : Reply → Bool
is_refused (Started number) = false
is_refused (Ran id) = false
is_refused Invalid = false
is_refused NoEntry = false
is_refused (Offered channel rung) = false
is_refused Done = false
is_refused (Refused refusal) = true

-- whether a refusal is given without use of memory: all are but that of a dialplan, which has to be loaded first
abbrev pub is_at_once : Refusal → Bool
is_at_once NoChannel = true
is_at_once NotReady = true
is_at_once NotWaiting = true
is_at_once NoTimer = true
is_at_once NoQueue = true
is_at_once NobodyWaiting = true
is_at_once NoMember = true
is_at_once NotRinging = true
is_at_once NotTalking = true
is_at_once Ended = true
is_at_once NumbersSpent = true
is_at_once BadDigit = true
is_at_once BadPlan = false
is_at_once NotDialling = true

-- whether a reply is a refusal that is given without use of memory
abbrev pub is_refused_at_once : Reply → Bool
is_refused_at_once (Started number) = false
is_refused_at_once (Ran id) = false
is_refused_at_once Invalid = false
is_refused_at_once NoEntry = false
is_refused_at_once (Offered channel rung) = false
is_refused_at_once Done = false
is_refused_at_once (Refused refusal) = is_at_once refusal
