-- A refused event leaves the world unchanged.
use Rattle.std.proofs.Common.{◌≡◌, ℕ, zero, suc, ◌-◌, ◌+◌, ◌++◌, ◌==◌, nat_lt, length, Bool, true, false, ◌||◌, List, [], ◌∷◌, Option, Some, None, Result, Ok, Err, IfOk, slice_get, slice_set, if◌then◌else◌, refl, sym, ap, ◌∙◌}
use Rattle.std.specs.declared.alloc.AllocError.{AllocError as NoMemory}
use Rattle.std.proofs.lemmas.Option.{none-some, same_Some}
use Rattle.dp_plan.specs.Loaded.{plan_and_notes}
use Rattle.dp_plan.specs.Plan.{PlanOf}
use Rattle.dp_queue.specs.Agents.{agent_number, state_at}
use Rattle.dp_queue.specs.Calls.{answer_row_at, decline_row_at, done_row_at}
use Rattle.dp_queue.specs.Joining.{should_leave}
use Rattle.dp_queue.specs.Offers.{offer_row}
use Rattle.dp_queue.specs.Queues.{QueuesOf}
use Rattle.dp_queue.specs.declared.offer.Offered.{Offered as Rung}
use Rattle.dp_queue.proofs.RefusedLemmas.{offer-refused}
use Rattle.dp_queue.specs.declared.agent.AgentState.{AgentState}
use Rattle.dp_queue.specs.declared.agent.AgentState.TheVariants.{Idle, Ringing as agent_rings, Talking as agent_talks}
use Rattle.dp_queue.specs.declared.fault.OfferFault.{OfferFault}
use Rattle.dp_vars.specs.Functions.{FunctionTable, SettingTarget, Variable, Global, Local, Caller, Nothing}
use Rattle.dp_app.specs.Rows.{Meanings}
use Rattle.dp_app.specs.declared.place.Place.{Place}
use Rattle.dp_app.specs.declared.phase.Phase.{Phase}
use Rattle.dp_app.specs.declared.phase.Phase.TheVariants.{Ready, Digits, Pause, Queued, Talking, Dialling, Ended}
use Rattle.dp_machine.specs.Channels.{invalid, is_invalid, hung_up, ready_at}
use Rattle.dp_machine.specs.Events as spec
use Rattle.dp_machine.specs.Events.{Own, is_refused}
use Rattle.dp_machine.specs.Found.{Located, entry_found, is_found}
use Rattle.dp_machine.specs.Reloading.{plan_in, reloaded_by}
use Rattle.dp_machine.specs.Targets.{place_of}
use Rattle.dp_machine.specs.World.{World, channel_at, most_channels, with_channel}
use Rattle.dp_machine.specs.declared.channel_event.ChannelEvent.{ChannelEvent}
use Rattle.dp_machine.specs.declared.channel_event.ChannelEvent.TheVariants.{Step as asked_step, Digit as asked_digit, Timeout as asked_timeout, Poll as asked_poll, Hangup as asked_hangup, DialResult as asked_result, Assign as asked_assign, Redirect as asked_redirect}
use Rattle.dp_machine.specs.declared.channel.Channel.{Channel}
use Rattle.dp_machine.specs.declared.dial_status.DialStatus.{DialStatus}
use Rattle.dp_machine.specs.declared.event.Event.{Event}
use Rattle.dp_machine.specs.declared.event.Event.TheVariants.{Start, Step, Digit, Timeout, Poll, Hangup, DialResult, Offer, Answer, Decline, AgentDone, Reload, Assign, Redirect}
use Rattle.dp_machine.specs.declared.refusal.Refusal.TheVariants.{BadDigit, Ended as refused_ended, NotRinging, NumbersSpent}
use Rattle.dp_machine.specs.declared.reply.Reply.{Reply}
use Rattle.dp_machine.specs.declared.reply.Reply.TheVariants.{Done, Invalid, NoEntry, Refused, Started}
use Rattle.dp_machine.specs.declared.shared_state.SharedState.{SharedState}

not_refused : {X : Type 0} → false ≡ true → X
not_refused e = absurd cc

-- a refusal leaves the channel and what all channels share unchanged
abbrev OwnKept : SharedState → Channel → Own → Type 0
OwnKept shared c own = is_refused own.reply ≡ true → (own.channel ≡ c) × (own.shared ≡ shared)

module _ (plan : PlanOf) (shared : SharedState) (number : ℕ) (c : Channel) where
  unfound_by : (b : Bool) → OwnKept shared c (if◌then◌else◌ {A = Own} b
      (record { channel = invalid c; shared = shared; reply = Invalid }) (record { channel = hung_up plan c; shared = shared; reply = NoEntry }))
  unfound_by true = λ h. not_refused h
  unfound_by false = λ h. not_refused h

  unfound_kept : OwnKept shared c (spec.step_without_entry plan shared c)
  unfolding spec.step_without_entry
  unfound_kept = unfound_by (is_invalid plan c.place)

  step_at_kept : (meanings : Meanings) (o : Option Located) → OwnKept shared c (spec.step_at meanings plan shared number c o)
  step_at_kept meanings None = unfound_kept
  step_at_kept meanings (Some found) = λ h. not_refused h

  step_kept : (meanings : Meanings) (p : Phase) → OwnKept shared c (spec.step_in meanings p plan shared number c)
  step_kept meanings Ready = step_at_kept meanings (entry_found plan c.place)
  step_kept meanings (Digits digits is_background) = λ h. (refl, refl)
  step_kept meanings Pause = λ h. (refl, refl)
  step_kept meanings (Queued queue goes_on has_timer) = λ h. (refl, refl)
  step_kept meanings (Talking queue agent goes_on) = λ h. (refl, refl)
  step_kept meanings (Dialling goes_on has_timer) = λ h. (refl, refl)
  step_kept meanings Ended = λ h. (refl, refl)

  way_out_by : (digit : ℕ) (context : List ℕ) (b : Bool) → OwnKept shared c (if◌then◌else◌ {A = Own} b
      (spec.take_event (spec.without_caller shared number) (ready_at c (place_of context (digit ∷ []) 1))) (spec.take_event shared c))
  way_out_by digit context true = λ h. not_refused h
  way_out_by digit context false = λ h. not_refused h

  dial_kept : (digit : ℕ) (p : Phase) → OwnKept shared c (spec.dial_in p digit plan shared number c)
  dial_kept digit Ready = λ h. (refl, refl)
  dial_kept digit (Digits digits is_background) = λ h. not_refused h
  dial_kept digit Pause = λ h. not_refused h
  dial_kept digit (Queued queue goes_on has_timer) =
      way_out_by digit (spec.way_out_of shared.queues queue) (is_found plan (spec.way_out_of shared.queues queue) (digit ∷ []) 1)
  dial_kept digit (Talking queue agent goes_on) = λ h. (refl, refl)
  dial_kept digit (Dialling goes_on has_timer) = λ h. not_refused h
  dial_kept digit Ended = λ h. (refl, refl)

  digit_by : (digit : ℕ) (b : Bool) → OwnKept shared c
      (if◌then◌else◌ {A = Own} b (spec.dial_in c.phase digit plan shared number c) (spec.refuse BadDigit shared c))
  digit_by digit true = dial_kept digit c.phase
  digit_by digit false = λ h. (refl, refl)

  digit_kept : (digit : ℕ) → OwnKept shared c (spec.digit_row digit plan shared number c)
  unfolding spec.digit_row
  digit_kept digit = digit_by digit (spec.is_over c.phase || spec.is_digit digit)

  time_kept : (has_timer : Bool) → OwnKept shared c (spec.time_in_queue has_timer shared number c)
  time_kept false = λ h. (refl, refl)
  time_kept true = λ h. not_refused h

  dial_time_kept : (has_timer : Bool) → OwnKept shared c (spec.dial_time has_timer shared c)
  dial_time_kept false = λ h. (refl, refl)
  dial_time_kept true = λ h. not_refused h

  timeout_kept : (p : Phase) → OwnKept shared c (spec.timeout_in p plan shared number c)
  timeout_kept Ready = λ h. (refl, refl)
  timeout_kept (Digits digits is_background) = λ h. not_refused h
  timeout_kept Pause = λ h. not_refused h
  timeout_kept (Queued queue goes_on has_timer) = time_kept has_timer
  timeout_kept (Talking queue agent goes_on) = λ h. (refl, refl)
  timeout_kept (Dialling goes_on has_timer) = dial_time_kept has_timer
  timeout_kept Ended = λ h. (refl, refl)

  polled_kept : (b : Bool) → OwnKept shared c (spec.poll_queue b shared number c)
  polled_kept false = λ h. not_refused h
  polled_kept true = λ h. not_refused h

  poll_kept : (p : Phase) → OwnKept shared c (spec.poll_in p plan shared number c)
  poll_kept Ready = λ h. (refl, refl)
  poll_kept (Digits digits is_background) = λ h. (refl, refl)
  poll_kept Pause = λ h. (refl, refl)
  poll_kept (Queued queue goes_on has_timer) = polled_kept (should_leave shared.queues queue)
  poll_kept (Talking queue agent goes_on) = λ h. (refl, refl)
  poll_kept (Dialling goes_on has_timer) = λ h. (refl, refl)
  poll_kept Ended = λ h. (refl, refl)

  hang_up_kept : (p : Phase) → OwnKept shared c (spec.hang_up_in p plan shared number c)
  hang_up_kept Ready = λ h. not_refused h
  hang_up_kept (Digits digits is_background) = λ h. not_refused h
  hang_up_kept Pause = λ h. not_refused h
  hang_up_kept (Queued queue goes_on has_timer) = λ h. not_refused h
  hang_up_kept (Talking queue agent goes_on) = λ h. not_refused h
  hang_up_kept (Dialling goes_on has_timer) = λ h. not_refused h
  hang_up_kept Ended = λ h. (refl, refl)

  result_kept : (status : DialStatus) (p : Phase) → OwnKept shared c (spec.dial_result_in p status plan shared number c)
  result_kept status Ready = λ h. (refl, refl)
  result_kept status (Digits digits is_background) = λ h. (refl, refl)
  result_kept status Pause = λ h. (refl, refl)
  result_kept status (Queued queue goes_on has_timer) = λ h. (refl, refl)
  result_kept status (Talking queue agent goes_on) = λ h. (refl, refl)
  result_kept status (Dialling goes_on has_timer) = λ h. not_refused h
  result_kept status Ended = λ h. (refl, refl)

  assigned_kept : (target : SettingTarget) (value : List ℕ) → OwnKept shared c (spec.assign_value target value shared c)
  assigned_kept (Variable name) value = λ h. not_refused h
  assigned_kept (Global name) value = λ h. not_refused h
  assigned_kept (Local name) value = λ h. not_refused h
  assigned_kept Caller value = λ h. not_refused h
  assigned_kept Nothing value = λ h. not_refused h

  assign_by : (target : SettingTarget) (value : List ℕ) (b : Bool) → OwnKept shared c
      (if◌then◌else◌ {A = Own} b (spec.refuse refused_ended shared c) (spec.assign_value target value shared c))
  assign_by target value true = λ h. (refl, refl)
  assign_by target value false = assigned_kept target value

  assign_kept : (functions : FunctionTable) (name value : List ℕ) → OwnKept shared c (spec.assign_row functions name value plan shared number c)
  unfolding spec.assign_row
  assign_kept functions name value = assign_by (functions.target name) value (spec.is_over c.phase)

  redirect_kept : (place : Place) (p : Phase) → OwnKept shared c (spec.redirect_in p place plan shared number c)
  redirect_kept place Ready = λ h. not_refused h
  redirect_kept place (Digits digits is_background) = λ h. not_refused h
  redirect_kept place Pause = λ h. not_refused h
  redirect_kept place (Queued queue goes_on has_timer) = λ h. (refl, refl)
  redirect_kept place (Talking queue agent goes_on) = λ h. (refl, refl)
  redirect_kept place (Dialling goes_on has_timer) = λ h. (refl, refl)
  redirect_kept place Ended = λ h. (refl, refl)

  redirect_row_kept : (place : Place) → OwnKept shared c (spec.redirect_row place plan shared number c)
  unfolding spec.redirect_row
  redirect_row_kept place = redirect_kept place c.phase

  -- the row of each event of a channel
  own_kept : (meanings : Meanings) (asked : ChannelEvent) → OwnKept shared c (spec.own_row meanings asked plan shared number c)
  unfolding spec.step_row spec.timeout_row spec.poll_row spec.hang_up_row spec.dial_result_row
  own_kept meanings asked_step = step_kept meanings c.phase
  own_kept meanings (asked_digit digit) = digit_kept digit
  own_kept meanings asked_timeout = timeout_kept c.phase
  own_kept meanings asked_poll = poll_kept c.phase
  own_kept meanings asked_hangup = hang_up_kept c.phase
  own_kept meanings (asked_result status) = result_kept status c.phase
  own_kept meanings (asked_assign name value) = assign_kept meanings.functions name.now value.now
  own_kept meanings (asked_redirect place) = redirect_row_kept place.now

-- writing what is at a place to this place again changes nothing
set-get : {X : Type 0} (xs : List X) (k : ℕ) (x : X) → slice_get xs k ≡ Some x → slice_set xs k x ≡ xs
set-get [] k x here = refl
set-get (y ∷ ys) zero x here = ap (λ z. z ∷ ys) (sym (same_Some y x here))
set-get (y ∷ ys) (suc k) x here = ap (λ zs. y ∷ zs) (set-get ys k x here)

with_channel-same : (channels : List Channel) (number : ℕ) (c : Channel) → channel_at channels number ≡ Some c → with_channel channels number c ≡ channels
with_channel-same channels number c here = by (number == 0) here
  where
    by : (b : Bool) → (if b then None else slice_get channels (number - 1)) ≡ Some c → slice_set channels (number - 1) c ≡ channels
    by true here = absurd (none-some c here)
    by false here = set-get channels (number - 1) c here

-- a refusal leaves the world unchanged
abbrev IsKept : World → World × Reply → Type 0
IsKept w after = is_refused after.1 ≡ true → after.0 ≡ w

owned_kept : (w : World) (number : ℕ) (c : Channel) (own : Own) → channel_at w.channels number ≡ Some c → OwnKept w.shared c own → IsKept w (spec.world_with_own w number own)
owned_kept w number c own here kept h =
    let same : (own.channel ≡ c) × (own.shared ≡ w.shared) = kept h in
    λ i. record { plan = w.plan; channels = (ap (with_channel w.channels number) same.0 ∙ with_channel-same w.channels number c here) i; shared = same.1 i }

-- a row that leaves each channel unchanged that it refuses
row_kept : (w : World) (number : ℕ) (row : PlanOf → SharedState → ℕ → Channel → Own) → ((c : Channel) → OwnKept w.shared c (row w.plan w.shared number c))
    → IsKept w (spec.own_event w number row (channel_at w.channels number))
row_kept w number row kept = by (channel_at w.channels number) refl
  where
    by : (o : Option Channel) → channel_at w.channels number ≡ o → IsKept w (spec.own_event w number row o)
    by None here = λ h. refl
    by (Some c) here = owned_kept w number c (row w.plan w.shared number c) here (kept c)

asked_kept : (meanings : Meanings) (w : World) (number : ℕ) (asked : ChannelEvent) → IsKept w (spec.own_event w number (spec.own_row meanings asked) (channel_at w.channels number))
asked_kept meanings w number asked = row_kept w number (spec.own_row meanings asked) (λ c. own_kept w.plan w.shared number c meanings asked)

-- a refused offer
offer_by : (w : World) (queues : QueuesOf) (found : Result Rung OfferFault) → ((fault : OfferFault) → found ≡ Err fault → queues ≡ w.shared.queues)
    → IsKept w (spec.agent_event w (spec.serve_no_channel (spec.with_queues w.shared queues) (spec.offer_reply found)))
offer_by w queues (Err fault) same = λ h. ap (λ q. record w { shared = spec.with_queues w.shared q }) (same fault refl)
offer_by w queues (Ok offered) same = λ h. not_refused h

offer_kept : (w : World) (queue : List ℕ) → IsKept w (spec.agent_event w (spec.serve_offer w.shared queue))
unfolding spec.serve_offer
offer_kept w queue = offer_by w (offer_row w.shared.queues queue).0 (offer_row w.shared.queues queue).1 (offer-refused w.shared.queues queue)

-- an answer, given the agent's state
answer_by : (w : World) (a : ℕ) (s : AgentState)
    → IsKept w (spec.agent_event w (spec.begin_talk (spec.with_queues w.shared (answer_row_at w.shared.queues a s).0) (answer_row_at w.shared.queues a s).1))
answer_by w a Idle = λ h. refl
answer_by w a (agent_rings queue channel) = λ h. not_refused h
answer_by w a (agent_talks queue channel) = λ h. refl

answer_kept : (w : World) (agent : List ℕ) → IsKept w (spec.agent_event w (spec.serve_answer w.shared agent))
unfolding spec.serve_answer
answer_kept w agent = answer_by w (agent_number w.shared.queues.agents agent) (state_at w.shared.queues.agents (agent_number w.shared.queues.agents agent))

-- a decline by an agent that does not ring
decline_by : (w : World) (a : ℕ) (s : AgentState)
    → IsKept w (spec.agent_event w (spec.serve_no_channel (spec.with_queues w.shared (decline_row_at w.shared.queues a s).0) (if (decline_row_at w.shared.queues a s).1 then Done else Refused NotRinging)))
decline_by w a Idle = λ h. refl
decline_by w a (agent_rings queue channel) = λ h. not_refused h
decline_by w a (agent_talks queue channel) = λ h. refl

decline_kept : (w : World) (agent : List ℕ) → IsKept w (spec.agent_event w (spec.serve_decline w.shared agent))
unfolding spec.serve_decline
decline_kept w agent = decline_by w (agent_number w.shared.queues.agents agent) (state_at w.shared.queues.agents (agent_number w.shared.queues.agents agent))

-- a `done` of an agent that does not talk
done_by : (w : World) (a : ℕ) (s : AgentState)
    → IsKept w (spec.agent_event w (spec.end_talk (spec.with_queues w.shared (done_row_at w.shared.queues a s).0) (done_row_at w.shared.queues a s).1))
done_by w a Idle = λ h. refl
done_by w a (agent_rings queue channel) = λ h. refl
done_by w a (agent_talks queue channel) = λ h. not_refused h

done_kept : (w : World) (agent : List ℕ) → IsKept w (spec.agent_event w (spec.agent_done w.shared agent))
unfolding spec.agent_done
done_kept w agent = done_by w (agent_number w.shared.queues.agents agent) (state_at w.shared.queues.agents (agent_number w.shared.queues.agents agent))

-- a call that does not come in, because all numbers are spent
start_by : (w : World) (context exten caller : List ℕ) (b : Bool)
    → IsKept w (spec.world_with_call w (if◌then◌else◌ {A = spec.Entered} b
    (record { channels = w.channels ++ spec.new_channel context exten caller ∷ []; reply = Started (length w.channels + 1) })
    (record { channels = w.channels; reply = Refused NumbersSpent })))
start_by w context exten caller true = λ h. not_refused h
start_by w context exten caller false = λ h. refl

start_kept : (w : World) (context exten caller : List ℕ) → IsKept w (spec.world_with_call w (spec.start_call w.channels context exten caller))
unfolding spec.start_call
start_kept w context exten caller = start_by w context exten caller (nat_lt (length w.channels) most_channels)

-- a dialplan with a fault
reload_by : (functions : FunctionTable) (w : World) (plan : Option PlanOf) → IsKept w (reloaded_by functions w plan)
reload_by functions w None = λ h. refl
reload_by functions w (Some plan) = λ h. not_refused h

-- a refused event leaves the world unchanged
pub refused-kept : (meanings : Meanings) (w : World) (event : Event) → IsKept w (spec.event_row meanings w event)
refused-kept meanings w (Start context exten caller) = start_kept w context exten caller
refused-kept meanings w (Step number) = asked_kept meanings w number asked_step
refused-kept meanings w (Digit number digit) = asked_kept meanings w number (asked_digit digit)
refused-kept meanings w (Timeout number) = asked_kept meanings w number asked_timeout
refused-kept meanings w (Poll number) = asked_kept meanings w number asked_poll
refused-kept meanings w (Hangup number) = asked_kept meanings w number asked_hangup
refused-kept meanings w (DialResult number status) = asked_kept meanings w number (asked_result status)
refused-kept meanings w (Offer queue) = offer_kept w queue
refused-kept meanings w (Answer agent) = answer_kept w agent
refused-kept meanings w (Decline agent) = decline_kept w agent
refused-kept meanings w (AgentDone agent) = done_kept w agent
refused-kept meanings w (Reload text) = reload_by meanings.functions w (plan_in (plan_and_notes text))
refused-kept meanings w (Assign None name value) = λ h. not_refused h
refused-kept meanings w (Assign (Some number) name value) =
    row_kept w number (spec.assign_row meanings.functions name value) (λ c. assign_kept w.plan w.shared number c meanings.functions name value)
refused-kept meanings w (Redirect number place) = row_kept w number (spec.redirect_row place) (λ c. redirect_row_kept w.plan w.shared number c place)

-- so the reply to an event says whether it may have changed anything
pub refused_after : (meanings : Meanings) (w after : World) (event : Event) (result : Result Reply NoMemory)
    → IfOk result (λ reply. spec.event_row meanings w event ≡ (after, reply)) → IfOk result (λ reply. is_refused reply ≡ true → after ≡ w)
refused_after meanings w after event (Ok reply) row =
    λ h. sym (ap (λ p. p.0) row) ∙ refused-kept meanings w event (ap (λ p. is_refused p.1) row ∙ h)
refused_after meanings w after event (Err fault) row = tt
