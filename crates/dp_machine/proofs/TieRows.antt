-- The effect of each event of a channel: the channel is sound and agrees with the queues after it.
use Rattle.std.proofs.Common.{◌≡◌, ℕ, ◌+◌, ◌||◌, ◌++◌, Bool, true, false, List, [], ◌∷◌, Some, None, refl, ap, ◌∙◌, subst, if◌then◌else◌}
use Rattle.std.specs.Prelude.{codes}
use Rattle.dp_queue.specs.Good.{IsGood}
use Rattle.dp_queue.specs.Joining.{should_leave}
use Rattle.dp_queue.specs.Queues.{QueuesOf}
use Rattle.dp_plan.specs.Plan.{PlanOf}
use Rattle.dp_vars.specs.Functions.{FunctionTable, SettingTarget, Variable, Global, Local, Caller, Nothing}
use Rattle.dp_vars.specs.Stores.{StoreOf, set, set_local}
use Rattle.dp_app.specs.declared.phase.Phase.{Phase}
use Rattle.dp_app.specs.declared.phase.Phase.TheVariants.{Ready, Digits, Pause, Queued, Talking, Dialling, Ended as phase_ended}
use Rattle.dp_app.specs.declared.place.Place.{Place}
use Rattle.dp_machine.specs.Channels.{after_cancel, after_digit, after_dialling, ends_call, going_on, hung_up, left_queue, ready_at, ready_in, timed_out, after_no_answer, after_wait, with_dial_status}
use Rattle.dp_machine.specs.Events.{Own, dial_in, dial_result_in, assign_row, assign_value, dial_result_row, digit_row, hang_up_in, hang_up_row, is_digit, is_over, poll_in, poll_queue, poll_row, redirect_in, redirect_row, refuse, take_event, timeout_in, timeout_row, way_out_of, without_caller}
use Rattle.dp_machine.specs.Codes.{status_name}
use Rattle.dp_machine.specs.Found.{could_go_on, is_found}
use Rattle.dp_machine.specs.GoodWorld.{IsSoundIn, queue_in, talk_in}
use Rattle.dp_machine.specs.Targets.{place_of}
use Rattle.dp_machine.specs.declared.channel.Channel.{Channel}
use Rattle.dp_machine.specs.declared.dial_status.DialStatus.{DialStatus}
use Rattle.dp_machine.specs.declared.refusal.Refusal.TheVariants.{BadDigit, Ended, NoTimer, NotDialling, NotReady, NotWaiting}
use Rattle.dp_machine.specs.declared.reply.Reply.{Reply}
use Rattle.dp_machine.specs.declared.reply.Reply.TheVariants.{Done, Refused}
use Rattle.dp_machine.specs.declared.shared_state.SharedState.{SharedState}
use Rattle.dp_machine.proofs.TieLemmas.{Ties}
use Rattle.dp_machine.proofs.TieQueues.{Rests, ties-end_talk, ties-leave}
use Rattle.dp_machine.proofs.TieSteps.{hung_up-rests, hung_up-sound, ties-rests}

-- after a channel's event the channel is sound and agrees with the queues
pub record Acts (number : ℕ) (before : QueuesOf) (own : Own) : Type 0 where
  pub ties : Ties number before own.shared.queues own.channel.phase
  pub sound : IsSoundIn own.channel.phase own.channel

-- a channel that neither waits nor talks, and is sound
abbrev pub IsQuiet : Channel → Type 0
IsQuiet c = Rests c.phase × IsSoundIn c.phase c

-- such as one that is hung up
pub hung_up-quiet : (plan : PlanOf) (c : Channel) → IsQuiet (hung_up plan c)
hung_up-quiet plan c = (hung_up-rests plan c, hung_up-sound plan c)

-- one that has waited for digits
after_wait-quiet : (plan : PlanOf) (c : Channel) → IsQuiet (after_wait plan c)
after_wait-quiet plan c = by (is_found plan c.place.context c.place.exten (c.place.priority + 1)) (is_found plan c.place.context (codes "t") 1)
  where
    by : (a b : Bool) → IsQuiet (if a then going_on c else if b then ready_in c (codes "t") else hung_up plan c)
    by true b = ((refl, refl), tt)
    by false true = ((refl, refl), tt)
    by false false = hung_up-quiet plan c

timed_out-quiet : (plan : PlanOf) (c : Channel) (digits : List ℕ) (is_background : Bool) → IsQuiet (timed_out plan c digits is_background)
timed_out-quiet plan c [] true = ((refl, refl), tt)
timed_out-quiet plan c [] false = after_wait-quiet plan c
timed_out-quiet plan c (b ∷ bs) is_background = ((refl, refl), tt)

-- one whose call to devices has ended
after_dialling-quiet : (plan : PlanOf) (c : Channel) (status : DialStatus) (goes_on : Bool) → IsQuiet (after_dialling plan c status goes_on)
after_dialling-quiet plan c status goes_on = by (ends_call status goes_on)
  where
    by : (b : Bool) → IsQuiet (if b then hung_up plan (with_dial_status c (status_name status)) else going_on (with_dial_status c (status_name status)))
    by true = hung_up-quiet plan (with_dial_status c (status_name status))
    by false = ((refl, refl), tt)

-- a channel that is not over stays sound with other variables and another caller
sound-kept : (p : Phase) (c : Channel) (store : StoreOf Place) (caller : List ℕ) → is_over p ≡ false → IsSoundIn p c
    → IsSoundIn p (record c { store = store; caller = caller })
sound-kept Ready c store caller alive sound = tt
sound-kept (Digits digits is_background) c store caller alive sound = sound
sound-kept Pause c store caller alive sound = sound
sound-kept (Queued queue goes_on has_timer) c store caller alive sound = sound
sound-kept (Talking queue agent goes_on) c store caller alive sound = sound
sound-kept (Dialling goes_on has_timer) c store caller alive sound = sound
sound-kept phase_ended c store caller alive sound = absurd (over alive)
  where
    over : true ≡ false → ⊥
    over is = cc

-- the effect of events on a channel with these properties
module _ (plan : PlanOf) (shared : SharedState) (number : ℕ) (c : Channel) (good : IsGood shared.queues)
    (ties : Ties number shared.queues shared.queues c.phase) (sound : IsSoundIn c.phase c) where
  -- nothing changes
  still : (reply : Reply) → Acts number shared.queues (record { channel = c; shared = shared; reply = reply })
  still reply = record { ties = ties; sound = sound }

  -- a channel that neither waits nor talks changes to such a channel that is sound
  pub quiet : (d : Channel) (reply : Reply) → Rests c.phase → IsQuiet d → Acts number shared.queues (record { channel = d; shared = shared; reply = reply })
  quiet d reply rests is_quiet = record {
    ties = ties-rests number shared.queues shared.queues c.phase d.phase ties rests is_quiet.0;
    sound = is_quiet.1;
  }

  -- a channel leaves its queue, and changes to such a channel
  leaves : (d : Channel) (queue : ℕ) → queue_in c.phase ≡ Some queue → talk_in c.phase ≡ None → IsQuiet d
      → Acts number shared.queues (take_event (without_caller shared number) d)
  leaves d queue waits silent is_quiet = record {
    ties = ties-leave number queue shared.queues c.phase d.phase good ties waits silent is_quiet.0;
    sound = is_quiet.1;
  }

  -- the phase is known
  rests_by : (p : Phase) → c.phase ≡ p → Rests p → Rests c.phase
  rests_by p is rests = (ap queue_in is ∙ rests.0, ap talk_in is ∙ rests.1)

  -- one more digit
  after_digit-acts : (b : Bool) (digits : List ℕ) (is_background : Bool) (before : List ℕ) → c.phase ≡ Digits before is_background
      → Acts number shared.queues (take_event shared (after_digit b c digits is_background))
  after_digit-acts true digits is_background before is = record {
    ties = ties-rests number shared.queues shared.queues c.phase (Digits digits is_background) ties
        (rests_by (Digits before is_background) is (refl, refl)) (refl, refl);
    sound = subst (λ p. IsSoundIn p c) is sound;
  }
  after_digit-acts false digits is_background before is =
      quiet (ready_in c digits) Done (rests_by (Digits before is_background) is (refl, refl)) ((refl, refl), tt)

  -- a digit in a queue
  way_out-acts : (b : Bool) (queue : ℕ) (goes_on has_timer : Bool) (place : Place) → c.phase ≡ Queued queue goes_on has_timer
      → Acts number shared.queues (if b then take_event (without_caller shared number) (ready_at c place) else take_event shared c)
  way_out-acts true queue goes_on has_timer place is = leaves (ready_at c place) queue (ap queue_in is) (ap talk_in is) ((refl, refl), tt)
  way_out-acts false queue goes_on has_timer place is = still Done

  -- a telephone digit
  dial-acts : (digit : ℕ) (p : Phase) → c.phase ≡ p → Acts number shared.queues (dial_in p digit plan shared number c)
  dial-acts digit Ready is = still (Refused NotWaiting)
  dial-acts digit (Digits digits is_background) is =
      after_digit-acts (could_go_on plan c.place.context (digits ++ digit ∷ [])) (digits ++ digit ∷ []) is_background digits is
  dial-acts digit Pause is = still Done
  dial-acts digit (Queued queue goes_on has_timer) is =
      way_out-acts (is_found plan (way_out_of shared.queues queue) (digit ∷ []) 1) queue goes_on has_timer
      (place_of (way_out_of shared.queues queue) (digit ∷ []) 1) is
  dial-acts digit (Talking queue agent goes_on) is = still (Refused NotWaiting)
  dial-acts digit (Dialling goes_on has_timer) is = still Done
  dial-acts digit phase_ended is = still (Refused Ended)

  -- the event `Digit`
  pub digit-acts : (digit : ℕ) → Acts number shared.queues (digit_row digit plan shared number c)
  unfolding digit_row
  digit-acts digit = by (is_over c.phase || is_digit digit)
    where
      by : (b : Bool) → Acts number shared.queues (if b then dial_in c.phase digit plan shared number c else refuse BadDigit shared c)
      by true = dial-acts digit c.phase refl
      by false = still (Refused BadDigit)

  -- a time-out
  timeout-acts : (p : Phase) → c.phase ≡ p → Acts number shared.queues (timeout_in p plan shared number c)
  timeout-acts Ready is = still (Refused NotWaiting)
  timeout-acts (Digits digits is_background) is =
      quiet (timed_out plan c digits is_background) Done (rests_by (Digits digits is_background) is (refl, refl)) (timed_out-quiet plan c digits is_background)
  timeout-acts Pause is = quiet (going_on c) Done (rests_by Pause is (refl, refl)) ((refl, refl), tt)
  timeout-acts (Queued queue goes_on true) is =
      leaves (left_queue c (codes "TIMEOUT")) queue (ap queue_in is) (ap talk_in is) ((refl, refl), tt)
  timeout-acts (Queued queue goes_on false) is = still (Refused NoTimer)
  timeout-acts (Talking queue agent goes_on) is = still (Refused NotWaiting)
  timeout-acts (Dialling goes_on true) is = quiet (after_no_answer c) Done (rests_by (Dialling goes_on true) is (refl, refl)) ((refl, refl), tt)
  timeout-acts (Dialling goes_on false) is = still (Refused NoTimer)
  timeout-acts phase_ended is = still (Refused Ended)

  -- the event `Timeout`
  pub timeout_row-acts : Acts number shared.queues (timeout_row plan shared number c)
  unfolding timeout_row
  timeout_row-acts = timeout-acts c.phase refl

  -- a channel asks whether it has to leave its queue
  polled-acts : (b : Bool) (queue : ℕ) (goes_on has_timer : Bool) → c.phase ≡ Queued queue goes_on has_timer
      → Acts number shared.queues (poll_queue b shared number c)
  polled-acts true queue goes_on has_timer is =
      leaves (left_queue c (codes "LEAVEEMPTY")) queue (ap queue_in is) (ap talk_in is) ((refl, refl), tt)
  polled-acts false queue goes_on has_timer is = still Done

  poll-acts : (p : Phase) → c.phase ≡ p → Acts number shared.queues (poll_in p plan shared number c)
  poll-acts Ready is = still (Refused NotWaiting)
  poll-acts (Digits digits is_background) is = still (Refused NotWaiting)
  poll-acts Pause is = still (Refused NotWaiting)
  poll-acts (Queued queue goes_on has_timer) is = polled-acts (should_leave shared.queues queue) queue goes_on has_timer is
  poll-acts (Talking queue agent goes_on) is = still (Refused NotWaiting)
  poll-acts (Dialling goes_on has_timer) is = still (Refused NotWaiting)
  poll-acts phase_ended is = still (Refused Ended)

  -- the event `Poll`
  pub poll_row-acts : Acts number shared.queues (poll_row plan shared number c)
  unfolding poll_row
  poll_row-acts = poll-acts c.phase refl

  -- a hang-up
  hang_up-acts : (p : Phase) → c.phase ≡ p → Acts number shared.queues (hang_up_in p plan shared number c)
  hang_up-acts Ready is = quiet (hung_up plan c) Done (rests_by Ready is (refl, refl)) (hung_up-quiet plan c)
  hang_up-acts (Digits digits is_background) is =
      quiet (hung_up plan c) Done (rests_by (Digits digits is_background) is (refl, refl)) (hung_up-quiet plan c)
  hang_up-acts Pause is = quiet (hung_up plan c) Done (rests_by Pause is (refl, refl)) (hung_up-quiet plan c)
  hang_up-acts (Queued queue goes_on has_timer) is = leaves (hung_up plan c) queue (ap queue_in is) (ap talk_in is) (hung_up-quiet plan c)
  hang_up-acts (Talking queue agent goes_on) is = record {
    ties = ties-end_talk number agent queue shared.queues c.phase (hung_up plan c).phase good ties (ap talk_in is) (hung_up-rests plan c);
    sound = hung_up-sound plan c;
  }
  hang_up-acts (Dialling goes_on has_timer) is =
      quiet (after_cancel plan c) Done (rests_by (Dialling goes_on has_timer) is (refl, refl)) (hung_up-quiet plan (with_dial_status c (codes "CANCEL")))
  hang_up-acts phase_ended is = still (Refused Ended)

  -- the event `Hangup`
  pub hang_up_row-acts : Acts number shared.queues (hang_up_row plan shared number c)
  unfolding hang_up_row
  hang_up_row-acts = hang_up-acts c.phase refl

  -- a value that is set from outside
  assigned-acts : (target : SettingTarget) (value : List ℕ) → is_over c.phase ≡ false → Acts number shared.queues (assign_value target value shared c)
  assigned-acts (Variable name) value alive = record { ties = ties; sound = sound-kept c.phase c (set c.store name value) c.caller alive sound }
  assigned-acts (Global name) value alive = record { ties = ties; sound = sound }
  assigned-acts (Local name) value alive = record { ties = ties; sound = sound-kept c.phase c (set_local c.store name value) c.caller alive sound }
  assigned-acts Caller value alive = record { ties = ties; sound = sound-kept c.phase c c.store value alive sound }
  assigned-acts Nothing value alive = record { ties = ties; sound = sound }

  -- the event `Assign` with a channel
  pub assign_row-acts : (functions : FunctionTable) (name value : List ℕ) → Acts number shared.queues (assign_row functions name value plan shared number c)
  unfolding assign_row
  assign_row-acts functions name value = by (is_over c.phase) refl
    where
      by : (b : Bool) → is_over c.phase ≡ b
          → Acts number shared.queues (if b then refuse Ended shared c else assign_value (functions.target name) value shared c)
      by true over = still (Refused Ended)
      by false alive = assigned-acts (functions.target name) value alive

  -- the channel goes to a place
  redirect-acts : (place : Place) (p : Phase) → c.phase ≡ p → Acts number shared.queues (redirect_in p place plan shared number c)
  redirect-acts place Ready is = quiet (ready_at c place) Done (rests_by Ready is (refl, refl)) ((refl, refl), tt)
  redirect-acts place (Digits digits is_background) is =
      quiet (ready_at c place) Done (rests_by (Digits digits is_background) is (refl, refl)) ((refl, refl), tt)
  redirect-acts place Pause is = quiet (ready_at c place) Done (rests_by Pause is (refl, refl)) ((refl, refl), tt)
  redirect-acts place (Queued queue goes_on has_timer) is = still (Refused NotReady)
  redirect-acts place (Talking queue agent goes_on) is = still (Refused NotReady)
  redirect-acts place (Dialling goes_on has_timer) is = still (Refused NotReady)
  redirect-acts place phase_ended is = still (Refused Ended)

  -- the event `Redirect`
  pub redirect_row-acts : (place : Place) → Acts number shared.queues (redirect_row place plan shared number c)
  unfolding redirect_row
  redirect_row-acts place = redirect-acts place c.phase refl

  -- the result of a call to devices
  result-acts : (status : DialStatus) (p : Phase) → c.phase ≡ p → Acts number shared.queues (dial_result_in p status plan shared number c)
  result-acts status Ready is = still (Refused NotDialling)
  result-acts status (Digits digits is_background) is = still (Refused NotDialling)
  result-acts status Pause is = still (Refused NotDialling)
  result-acts status (Queued queue goes_on has_timer) is = still (Refused NotDialling)
  result-acts status (Talking queue agent goes_on) is = still (Refused NotDialling)
  result-acts status (Dialling goes_on has_timer) is =
      quiet (after_dialling plan c status goes_on) Done (rests_by (Dialling goes_on has_timer) is (refl, refl)) (after_dialling-quiet plan c status goes_on)
  result-acts status phase_ended is = still (Refused Ended)

  -- the event `DialResult`
  pub dial_result_row-acts : (status : DialStatus) → Acts number shared.queues (dial_result_row status plan shared number c)
  unfolding dial_result_row
  dial_result_row-acts status = result-acts status c.phase refl
