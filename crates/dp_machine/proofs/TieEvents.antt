-- The world is good before the first call, and stays good after each event.
use Rattle.std.proofs.Common.{◌≡◌, ℕ, zero, suc, ◌+◌, ◌-◌, ◌<◌, ◌==◌, nat_lt, Bool, true, false, List, [], ◌∷◌, ◌++◌, Option, Some, None, refl, sym, ap, ◌∙◌, arith, slice_get, subst, length, if◌then◌else◌, Result, Ok, Err, OnOk}
use Rattle.std.proofs.Common.{length-append}
use Rattle.std.proofs.lemmas.Option.{none-some}
use Rattle.std.specs.declared.alloc.AllocError.{AllocError as NoMemory}
use Rattle.dp_queue.specs.Good.{IsGood}
use Rattle.dp_queue.specs.Queues.{QueuesOf}
use Rattle.dp_queue.specs.Rest.{IsAtRest}
use Rattle.dp_queue.proofs.RestLemmas.{state_at-at_rest, waits_in-at_rest}
use Rattle.dp_plan.specs.Loaded.{plan_and_notes}
use Rattle.dp_plan.specs.Plan.{PlanOf}
use Rattle.dp_app.specs.Lawful.{IsLawful}
use Rattle.dp_vars.specs.Functions.{FunctionTable}
use Rattle.dp_app.specs.Rows.{Meanings}
use Rattle.dp_app.specs.declared.place.Place.{Place}
use Rattle.dp_app.specs.declared.touch.Touch.{Touch}
use Rattle.dp_machine.specs.Events.{Own, dial_result_row, digit_row, world_with_call, event_row, hang_up_row, new_channel, own_event, world_with_own, poll_row, start_call, step_row, timeout_row, assign_row, redirect_row}
use Rattle.dp_machine.specs.steps.Follows.{Makes}
use Rattle.dp_machine.specs.GoodWorld.{AreTied, IsGoodWorld, IsSoundAt, IsSoundOwn, StepsSoundly, queue_of, talk_of}
use Rattle.dp_machine.specs.Reloading.{plan_in, reloaded_by}
use Rattle.dp_machine.specs.World.{World, channel_at, most_channels, opening_with, world_in}
use Rattle.dp_machine.specs.declared.channel.Channel.{Channel}
use Rattle.dp_machine.specs.declared.dial_status.DialStatus.{DialStatus}
use Rattle.dp_machine.specs.declared.event.Event.{Event}
use Rattle.dp_machine.specs.declared.event.Event.TheVariants.{Start, Step, Digit, Timeout, Poll, Hangup, DialResult, Offer, Answer, Decline, AgentDone, Reload, Assign, Redirect}
use Rattle.dp_machine.specs.declared.exchange.Exchange.{Exchange}
use Rattle.dp_machine.specs.declared.refusal.Refusal.TheVariants.{NumbersSpent}
use Rattle.dp_machine.specs.declared.reply.Reply.{Reply}
use Rattle.dp_machine.specs.declared.reply.Reply.TheVariants.{Refused, Started}
use Rattle.dp_machine.specs.declared.shared_state.SharedState.{SharedState}
use Rattle.dp_machine.proofs.TieApps.{IsTied, step-ties}
use Rattle.dp_machine.proofs.TieLemmas.{IsTiedWorld, Ties}
use Rattle.dp_machine.proofs.TieQueues.{talking_not_idle, ties-self}
use Rattle.dp_machine.proofs.TieRows.{Acts, assign_row-acts, redirect_row-acts, dial_result_row-acts, digit-acts, hang_up_row-acts, poll_row-acts, timeout_row-acts}
use Rattle.dp_machine.proofs.TieServed.{good-agent_done, good-serve_answer, good-changed, good-serve_decline, good-serve_offer}
use borrow.Author.Tests.{ltb-true}

-- without channels no number has one
none-at : (m : ℕ) → channel_at [] m ≡ None
none-at m = by (m == 0)
  where
    by : (b : Bool) → (if b then None else slice_get {X = Channel} [] (m - 1)) ≡ None
    by true = refl
    by false = refl

-- before the first call
good-opening : (functions : FunctionTable) (plan : PlanOf) (queues : QueuesOf) → IsAtRest queues → IsTiedWorld (opening_with functions plan queues)
good-opening functions plan queues rest = record {
  within = omega arith;
  tied = record {
    waits = λ m. waits_in-at_rest queues.queues rest.nobody_waits m ∙ sym (ap queue_of (none-at m));
    talking = λ agent queue m is. absurd (talking_not_idle queue m (sym (state_at-at_rest queues.agents rest.all_idle agent) ∙ is));
    talks = λ agent queue m is. absurd (none-some (queue, agent) (sym (ap talk_of (none-at m)) ∙ is));
    sound = λ m. subst IsSoundAt (sym (none-at m)) tt;
  };
}

-- a property of the channel at an index, after one more channel came in
get-push : (P : Option Channel → Type 0) (xs : List Channel) (i : ℕ) (x : Channel) → P (slice_get xs i) → (slice_get xs i ≡ None → P (Some x))
    → P (slice_get (xs ++ x ∷ []) i)
get-push P [] zero x old new = new refl
get-push P [] (suc i) x old new = old
get-push P (y ∷ xs) zero x old new = old
get-push P (y ∷ xs) (suc i) x old new = get-push P xs i x old new

at-push : (P : Option Channel → Type 0) (channels : List Channel) (m : ℕ) (x : Channel) → P (channel_at channels m)
    → (channel_at channels m ≡ None → P (Some x)) → P (channel_at (channels ++ x ∷ []) m)
at-push P channels m x = by (m == 0)
  where
    by : (b : Bool) → P (if b then None else slice_get channels (m - 1)) → ((if b then None else slice_get channels (m - 1)) ≡ None → P (Some x))
        → P (if b then None else slice_get (channels ++ x ∷ []) (m - 1))
    by true old new = old
    by false old new = get-push P channels (m - 1) x old new

-- channels and queues still agree after one more channel came in that neither waits nor talks
tied-new_channel : (channels : List Channel) (queues : QueuesOf) (context exten caller : List ℕ) → AreTied channels queues
    → AreTied (channels ++ new_channel context exten caller ∷ []) queues
tied-new_channel channels queues context exten caller tied = record {
  waits = λ m. tied.waits m ∙ sym (queues_same m);
  talking = λ agent queue m is. talks_same m ∙ tied.talking agent queue m is;
  talks = λ agent queue m is. tied.talks agent queue m (sym (talks_same m) ∙ is);
  sound = λ m. at-push IsSoundAt channels m (new_channel context exten caller) (tied.sound m) (λ none. tt);
}
  where
    queues_same : (m : ℕ) → queue_of (channel_at (channels ++ new_channel context exten caller ∷ []) m) ≡ queue_of (channel_at channels m)
    queues_same m = at-push (λ o. queue_of o ≡ queue_of (channel_at channels m)) channels m (new_channel context exten caller) refl
        (λ none. sym (ap queue_of none))

    talks_same : (m : ℕ) → talk_of (channel_at (channels ++ new_channel context exten caller ∷ []) m) ≡ talk_of (channel_at channels m)
    talks_same m = at-push (λ o. talk_of o ≡ talk_of (channel_at channels m)) channels m (new_channel context exten caller) refl
        (λ none. sym (ap talk_of none))

-- a call comes in
pub good-start_call : (w : World) (context exten caller : List ℕ) → IsTiedWorld w → IsTiedWorld (world_with_call w (start_call w.channels context exten caller)).0
unfolding start_call
good-start_call w context exten caller good = by (nat_lt (length w.channels) most_channels) refl
  where
    by : (b : Bool) → nat_lt (length w.channels) most_channels ≡ b
        → IsTiedWorld (world_with_call w (if b then (record { channels = w.channels ++ new_channel context exten caller ∷ []; reply = Started (length w.channels + 1) })
        else (record { channels = w.channels; reply = Refused NumbersSpent }))).0
    by true fits = record {
      within = let room : length w.channels < most_channels = ltb-true (length w.channels) most_channels fits in
          omega (arith, room, length-append w.channels (new_channel context exten caller ∷ []));
      tied = tied-new_channel w.channels w.shared.queues context exten caller good.tied;
    }
    by false full = record { within = good.within; tied = good.tied }

-- an event of a channel after which it is sound and agrees with the queues
pub good-world_with_own : (w : World) (number : ℕ) (c : Channel) (own : Own) → IsTiedWorld w → channel_at w.channels number ≡ Some c
    → IsTied number w.shared.queues own → IsSoundOwn own → IsTiedWorld (world_with_own w number own).0
good-world_with_own w number c own good here ties sound = good-changed w number c own.channel own.shared good here ties sound

module _ (w : World) (number : ℕ) (c : Channel) (good : IsTiedWorld w) (linked : IsGood w.shared.queues) (here : channel_at w.channels number ≡ Some c) where
  -- what is known of the channel before the event
  ties : Ties number w.shared.queues w.shared.queues c.phase
  ties = ties-self w.channels w.shared.queues number c good.tied here

  -- such an event keeps the world good
  acted : (own : Own) → Acts number w.shared.queues own → IsTiedWorld (world_with_own w number own).0
  acted own acts = good-world_with_own w number c own good here acts.ties acts.sound

  -- a digit
  pub good-digit : (digit : ℕ) → IsTiedWorld (world_with_own w number (digit_row digit w.plan w.shared number c)).0
  good-digit digit = acted (digit_row digit w.plan w.shared number c)
      (digit-acts w.plan w.shared number c linked ties (subst IsSoundAt here (good.tied.sound number)) digit)

  -- a time-out
  pub good-timeout : IsTiedWorld (world_with_own w number (timeout_row w.plan w.shared number c)).0
  good-timeout = acted (timeout_row w.plan w.shared number c)
      (timeout_row-acts w.plan w.shared number c linked ties (subst IsSoundAt here (good.tied.sound number)))

  -- a channel asks whether it has to leave its queue
  pub good-poll : IsTiedWorld (world_with_own w number (poll_row w.plan w.shared number c)).0
  good-poll = acted (poll_row w.plan w.shared number c)
      (poll_row-acts w.plan w.shared number c linked ties (subst IsSoundAt here (good.tied.sound number)))

  -- a hang-up
  pub good-hang_up : IsTiedWorld (world_with_own w number (hang_up_row w.plan w.shared number c)).0
  good-hang_up = acted (hang_up_row w.plan w.shared number c)
      (hang_up_row-acts w.plan w.shared number c linked ties (subst IsSoundAt here (good.tied.sound number)))

  -- the result of a call to devices
  pub good-dial_result : (status : DialStatus) → IsTiedWorld (world_with_own w number (dial_result_row status w.plan w.shared number c)).0
  good-dial_result status = acted (dial_result_row status w.plan w.shared number c)
      (dial_result_row-acts w.plan w.shared number c linked ties (subst IsSoundAt here (good.tied.sound number)) status)

  -- a value that is set from outside
  pub good-assign : (functions : FunctionTable) (name value : List ℕ) → IsTiedWorld (world_with_own w number (assign_row functions name value w.plan w.shared number c)).0
  good-assign functions name value = acted (assign_row functions name value w.plan w.shared number c)
      (assign_row-acts w.plan w.shared number c linked ties (subst IsSoundAt here (good.tied.sound number)) functions name value)

  -- a redirection
  pub good-redirect : (place : Place) → IsTiedWorld (world_with_own w number (redirect_row place w.plan w.shared number c)).0
  good-redirect place = acted (redirect_row place w.plan w.shared number c)
      (redirect_row-acts w.plan w.shared number c linked ties (subst IsSoundAt here (good.tied.sound number)) place)

  -- a step over a lawful table, after which the channel is sound
  pub good-step : (touches : List ℕ → Touch) (meanings : Meanings) → IsLawful touches meanings.rows → IsSoundOwn (step_row meanings w.plan w.shared number c)
      → IsTiedWorld (world_with_own w number (step_row meanings w.plan w.shared number c)).0
  good-step touches meanings lawful sound = good-world_with_own w number c (step_row meanings w.plan w.shared number c) good here
      (step-ties w.plan w.shared number c ties touches meanings lawful) sound

-- an event of a channel, which may not exist
pub good-own_event : (w : World) (number : ℕ) (row : PlanOf → SharedState → ℕ → Channel → Own) → IsTiedWorld w
    → ((c : Channel) → channel_at w.channels number ≡ Some c → IsTiedWorld (world_with_own w number (row w.plan w.shared number c)).0)
    → IsTiedWorld (own_event w number row (channel_at w.channels number)).0
good-own_event w number row good acts = by (channel_at w.channels number) refl
  where
    by : (o : Option Channel) → channel_at w.channels number ≡ o → IsTiedWorld (own_event w number row o).0
    by None here = good
    by (Some c) here = acts c here

-- a reload, if the text has no fault
good-reloaded : (functions : FunctionTable) (w : World) (plan : Option PlanOf) → IsTiedWorld w → IsTiedWorld (reloaded_by functions w plan).0
good-reloaded functions w None good = good
good-reloaded functions w (Some plan) good = record { within = good.within; tied = good.tied }

-- over a lawful table the world stays good after each event
pub good-event : (touches : List ℕ → Touch) (meanings : Meanings) (w : World) (event : Event) → IsLawful touches meanings.rows → IsGood w.shared.queues → IsTiedWorld w
    → StepsSoundly meanings w event → IsTiedWorld (event_row meanings w event).0
good-event touches meanings w (Start context exten caller) lawful linked good steps = good-start_call w context exten caller good
good-event touches meanings w (Step number) lawful linked good steps = good-own_event w number (step_row meanings) good
    (λ c here. good-step w number c good linked here touches meanings lawful (steps c here))
good-event touches meanings w (Digit number digit) lawful linked good steps = good-own_event w number (digit_row digit) good
    (λ c here. good-digit w number c good linked here digit)
good-event touches meanings w (Timeout number) lawful linked good steps = good-own_event w number timeout_row good
    (λ c here. good-timeout w number c good linked here)
good-event touches meanings w (Poll number) lawful linked good steps = good-own_event w number poll_row good
    (λ c here. good-poll w number c good linked here)
good-event touches meanings w (Hangup number) lawful linked good steps = good-own_event w number hang_up_row good
    (λ c here. good-hang_up w number c good linked here)
good-event touches meanings w (DialResult number status) lawful linked good steps = good-own_event w number (dial_result_row status) good
    (λ c here. good-dial_result w number c good linked here status)
good-event touches meanings w (Offer queue) lawful linked good steps = good-serve_offer w queue good
good-event touches meanings w (Answer agent) lawful linked good steps = good-serve_answer w good linked agent
good-event touches meanings w (Decline agent) lawful linked good steps = good-serve_decline w agent good
good-event touches meanings w (AgentDone agent) lawful linked good steps = good-agent_done w good linked agent
good-event touches meanings w (Reload text) lawful linked good steps = good-reloaded meanings.functions w (plan_in (plan_and_notes text)) good
good-event touches meanings w (Assign None name value) lawful linked good steps = record { within = good.within; tied = good.tied }
good-event touches meanings w (Assign (Some number) name value) lawful linked good steps = good-own_event w number (assign_row meanings.functions name value) good
    (λ c here. good-assign w number c good linked here meanings.functions name value)
good-event touches meanings w (Redirect number place) lawful linked good steps = good-own_event w number (redirect_row place) good
    (λ c here. good-redirect w number c good linked here place)

-- so channels and queues agree after a function call of the machine: the world is that of the event's row, or is unchanged
tied-after : (touches : List ℕ → Touch) (meanings : Meanings) (before after : World) (event : Event) (r : Result Reply NoMemory)
    → IsLawful touches meanings.rows → IsGood before.shared.queues → IsTiedWorld before → Makes (event_row meanings before event) before after r
    → OnOk r (StepsSoundly meanings before event) → IsTiedWorld after
tied-after touches meanings before after event (Ok reply) lawful linked tied makes steps =
    subst IsTiedWorld (ap (λ (p : World × Reply). p.0) makes.ok) (good-event touches meanings before event lawful linked tied steps)
tied-after touches meanings before after event (Err e) lawful linked tied makes steps = subst IsTiedWorld (sym makes.err) tied

-- and the world is good, since its queues are
pub good-after : (touches : List ℕ → Touch) (meanings : Meanings) (before after : World) (event : Event) (r : Result Reply NoMemory)
    → IsLawful touches meanings.rows → IsGoodWorld before → Makes (event_row meanings before event) before after r
    → OnOk r (StepsSoundly meanings before event) → IsGood after.shared.queues → IsGoodWorld after
good-after touches meanings before after event r lawful good makes steps queues =
    let tied : IsTiedWorld after = tied-after touches meanings before after event r lawful good.queues (record { within = good.within; tied = good.tied }) makes steps in
    record { within = tied.within; tied = tied.tied; queues = queues }

-- and so is the world of an exchange before the first call, without channels
pub good-fresh : (functions : FunctionTable) (plan : PlanOf) (queues : QueuesOf) (exchange : Exchange) (channels : List Channel) → channels ≡ []
    → world_in exchange [] ≡ opening_with functions plan queues → IsAtRest queues → IsGood exchange.shared.queues → IsGoodWorld (world_in exchange channels)
good-fresh functions plan queues exchange channels none first rest linked =
    let tied : IsTiedWorld (world_in exchange channels) = subst (λ cs. IsTiedWorld (world_in exchange cs)) (sym none)
    (subst IsTiedWorld (sym first) (good-opening functions plan queues rest)) in
    record { within = tied.within; tied = tied.tied; queues = linked }
