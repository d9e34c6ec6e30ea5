-- An event of a channel in the reach leaves it there, and everything shared as it is claimed; an entry that it runs is an answer.
use Rattle.std.proofs.Common.{◌≡◌, ◌⊎◌, inl, inr, ℕ, Bool, true, false, ◌||◌, List, [], ◌∷◌, ◌++◌, Option, Some, None, refl, sym, ◌∙◌, subst, codes, if◌then◌else◌}
use Rattle.dp_conf.proofs.TextLemmas.{each-append}
use Rattle.dp_pattern.specs.Matches.{Matches}
use Rattle.dp_pattern.specs.Name.{Meaning}
use Rattle.dp_plan.specs.declared.entry.EntryId.{EntryId}
use Rattle.dp_queue.specs.Joining.{should_leave}
use Rattle.dp_vars.specs.Functions.{SettingTarget, Variable, Global, Local, Caller, Nothing}
use Rattle.dp_vars.specs.Values.{expansion_with}
use Rattle.dp_machine.specs.Channels.{invalid, is_invalid, hung_up, ready_at}
use Rattle.dp_machine.specs.Events.{Own, application_outcome, assign_row, assign_value, cell_of, dial_in, dial_result_in, dial_result_row, dial_time, digit_row, hang_up_in, hang_up_row, is_digit, is_over, leave, poll_in, poll_queue, poll_row, after_run, refuse, step_at, step_in, step_row, take_event, time_in_queue, timeout_in, timeout_row, step_without_entry, way_out, way_out_of, with_shared_global, without_caller, without_talk}
use Rattle.dp_machine.specs.Found.{Located, could_go_on, entry_found, is_found}
use Rattle.dp_machine.specs.Seen.{arguments_seen, sight_in}
use Rattle.dp_machine.specs.Targets.{place_of}
use Rattle.dp_machine.specs.declared.channel.Channel.{Channel}
use Rattle.dp_machine.specs.declared.dial_status.DialStatus.{DialStatus}
use Rattle.dp_machine.specs.declared.refusal.Refusal.{Refusal}
use Rattle.dp_machine.specs.declared.refusal.Refusal.TheVariants.{NotReady, NotWaiting, NoTimer, Ended as refused_ended, BadDigit, NotDialling}
use Rattle.dp_machine.specs.declared.reply.Reply.{Reply}
use Rattle.dp_machine.specs.declared.reply.Reply.TheVariants.{Started, Ran, Invalid, NoEntry, Offered, Done, Refused}
use Rattle.dp_machine.specs.declared.shared_state.SharedState.{SharedState}
use Rattle.dp_app.specs.Lawful.{IsLawful}
use Rattle.dp_app.specs.Rows.{Row, Rows, after_dispatch, with_functions}
use Rattle.dp_app.specs.Cells.{CellOf}
use Rattle.dp_app.specs.declared.phase.Phase.{Phase}
use Rattle.dp_app.specs.declared.phase.Phase.TheVariants.{Ready, Digits, Pause, Queued, Talking, Dialling, Ended}
use Rattle.dp_app.specs.declared.touch.Touch.{Touch}
use Rattle.dp_pieces.specs.Bytes.{Within}
use Rattle.dp_pieces.specs.Pieces.{Fits}
use Rattle.dp_pieces.proofs.MetLemmas.{part-after_match}
use Rattle.dp_reach.specs.Areas.{Area, IsIn, IsUnknown, area_matched}
use Rattle.dp_reach.specs.Bounds.{AreBounded, Obligations}
use Rattle.dp_reach.specs.Closed.{IsAreaClosed, IsClosed, IsEntry, IsNamed}
use Rattle.dp_reach.specs.Holding.{Claim, IsChannelIn, IsDialled, IsGood, IsInside, IsPhaseIn, IsSharedIn, LeadsInto, LeadsOut, way_of}
use Rattle.dp_reach.specs.Runs.{MayBeSet}
use Rattle.dp_reach.proofs.ChannelLemmas.{IsFound, area-of, in-after_cancel, in-after_digit, in-after_dialling, in-going_on, in-hung_up, in-invalid, in-left_queue, in-ready, in-timed_out, in-after_no_answer, in-after_application, in-with_value, way-is}
use Rattle.dp_reach.proofs.FindingLemmas.{in-matched, may-find}
use Rattle.dp_reach.proofs.SettingsLemmas.{end_talk-settings, leave-settings}
use Rattle.dp_reach.proofs.SightLemmas.{seen-channel}
use Rattle.dp_reach.proofs.StoreLemmas.{held-insert, kept-set_local}
use Rattle.dp_reach.proofs.UnknownLemmas.{unknown-entry}

-- an entry that ran is an answer
abbrev pub IsReplyIn : (EntryId → Bool) → Reply → Type 0
IsReplyIn answers (Started number) = Unit {0}
IsReplyIn answers (Ran id) = answers id ≡ true
IsReplyIn answers Invalid = Unit {0}
IsReplyIn answers NoEntry = Unit {0}
IsReplyIn answers (Offered channel rung) = Unit {0}
IsReplyIn answers Done = Unit {0}
IsReplyIn answers (Refused refusal) = Unit {0}

-- what is true after an event of a channel
pub record IsOwnIn (claim : Claim) (answers : EntryId → Bool) (own : Own) : Type 0 where
  pub channel : IsChannelIn claim own.channel
  pub shared : IsSharedIn claim own.shared
  pub reply : IsReplyIn answers own.reply

-- a global that is set
pub shared-global : (claim : Claim) (shared : SharedState) (name value : List ℕ) → IsSharedIn claim shared → Within (claim.names.bytes name) value
    → IsSharedIn claim (with_shared_global shared name value)
shared-global claim shared name value all is =
    record { globals = held-insert claim.names shared.globals name value all.globals is; settings = all.settings }

-- what is known of a match adds no other bytes to an area's names
named-matched : (claim : Claim) (area : Area) (name : Meaning) (text : List ℕ) → Fits area.exten text → Matches name text → IsNamed claim area
    → IsNamed claim (area_matched area name)
named-matched claim area name text fits matching named =
    let part = part-after_match area.exten name text fits matching in
    record { exten = λ byte is. named.exten byte (part byte is); context = named.context; invalid = λ byte is. named.invalid byte (part byte is) }

module _ (touches : List ℕ → Touch) (rows : Rows) (lawful : IsLawful touches rows) (owing : Obligations) (bounded : AreBounded owing.duties rows)
    (claim : Claim) (answers : EntryId → Bool) (closed : IsClosed owing claim answers) where
  own-refused : (refusal : Refusal) (shared : SharedState) (c : Channel) → IsSharedIn claim shared → IsChannelIn claim c → IsOwnIn claim answers (refuse refusal shared c)
  own-refused refusal shared c all here = record { channel = here; shared = all; reply = tt }

  own-taken : (shared : SharedState) (c : Channel) → IsSharedIn claim shared → IsChannelIn claim c → IsOwnIn claim answers (take_event shared c)
  own-taken shared c all here = record { channel = here; shared = all; reply = tt }

  shared-left : (shared : SharedState) (number : ℕ) → IsSharedIn claim shared → IsSharedIn claim (without_caller shared number)
  shared-left shared number all = record { globals = all.globals; settings = leave-settings shared.queues number ∙ all.settings }

  shared-ended : (shared : SharedState) (number : ℕ) → IsSharedIn claim shared → IsSharedIn claim (without_talk shared number)
  shared-ended shared number all = record { globals = all.globals; settings = end_talk-settings shared.queues number ∙ all.settings }

  -- a step that finds no entry
  own-unfound : (shared : SharedState) (c : Channel) → IsSharedIn claim shared → IsChannelIn claim c → IsOwnIn claim answers (step_without_entry claim.plan shared c)
  unfolding step_without_entry
  own-unfound shared c all here = by (is_invalid claim.plan c.place) refl
    where
      by : (b : Bool) → is_invalid claim.plan c.place ≡ b → IsOwnIn claim answers (if b then record { channel = invalid c; shared = shared; reply = Invalid }
          else record { channel = hung_up claim.plan c; shared = shared; reply = NoEntry })
      by true is = record { channel = in-invalid owing claim answers closed c is here; shared = all; reply = tt }
      by false is = record { channel = in-hung_up owing claim answers closed c here; shared = all; reply = tt }

  -- the entry that is found, given what is known of its match
  record IsRun (c : Channel) (found : Located) : Type 0 where
    area : Area
    inside : IsIn area c.place
    named : IsNamed claim area
    entry : IsEntry owing claim answers area found.id found.entry

  run-of : (c : Channel) → IsChannelIn claim c → (found : Located) → entry_found claim.plan c.place ≡ Some found → IsRun c found
  run-of c here found from = by (area-of owing claim answers closed c.place here.place)
    where
      by : IsUnknown claim.plan c.place.context ⊎ IsFound (IsAreaClosed owing claim answers) c.place → IsRun c found
      by (inl unknown) = absurd (unknown-entry claim.plan c.place found unknown from)
      by (inr at) =
          let may = may-find claim.plan at.area c.place found at.inside from in
          record {
            area = area_matched at.area found.entry.name;
            inside = in-matched claim.plan at.area c.place found at.inside from;
            named = named-matched claim at.area found.entry.name may.exten may.exten_fits may.matching at.holds.named;
            entry = at.holds.entries found.id found.entry may;
          }

  -- a step, given its entry
  own-after_run : (shared : SharedState) (number : ℕ) (c : Channel) → IsSharedIn claim shared → IsChannelIn claim c → (found : Located) → entry_found claim.plan c.place ≡ Some found
      → (o : Option Row) → rows found.entry.application ≡ o
      → IsOwnIn claim answers (after_run claim.plan found.id (application_outcome c (after_dispatch o (arguments_seen owing.functions shared number c found.entry.arguments) (cell_of shared number c))))
  unfolding arguments_seen
  own-after_run shared number c all here found from None is =
      record { channel = in-hung_up owing claim answers closed c here; shared = all; reply = (run-of c here found from).entry.answer }
  own-after_run shared number c all here found from (Some row) is =
      let at = run-of c here found from in
      let cell : CellOf = cell_of shared number c in
      let arguments : List ℕ = expansion_with owing.functions (sight_in shared number c) found.entry.arguments in
      let good : IsGood claim cell = record { store = here.store; globals = all.globals; caller = here.caller } in
      let seen = seen-channel claim closed.named shared number c at.area at.inside at.named.exten at.named.context here.store all.globals here.caller in
      let inside : IsInside claim c.place (row arguments cell) =
      bounded found.entry.application row is claim at.area at.entry.pieces arguments cell good at.inside here.place (at.entry.fits (sight_in shared number c) seen) at.entry.met in
      let left : Channel = record c { caller = (row arguments cell).cell.caller; store = (row arguments cell).cell.store } in
      let stays : IsChannelIn claim left = record { place = here.place; store = inside.cell.store; caller = inside.cell.caller; phase = here.phase } in
      record {
        channel = in-after_application owing claim answers closed left (Some (row arguments cell).next) stays (λ move same. subst (LeadsInto claim c.place) (let e : (row arguments cell).next ≡ move = cc in e) inside.next);
        shared = record { globals = inside.cell.globals; settings = ((lawful found.entry.application row is).keeps arguments cell).queues.settings ∙ all.settings };
        reply = at.entry.answer;
      }

  own-step_at : (shared : SharedState) (number : ℕ) (c : Channel) → IsSharedIn claim shared → IsChannelIn claim c → (o : Option Located) → entry_found claim.plan c.place ≡ o
      → IsOwnIn claim answers (step_at (with_functions rows owing.functions) claim.plan shared number c o)
  own-step_at shared number c all here None from = own-unfound shared c all here
  own-step_at shared number c all here (Some found) from = own-after_run shared number c all here found from (rows found.entry.application) refl

  pub own-step : (shared : SharedState) (number : ℕ) (c : Channel) → IsSharedIn claim shared → IsChannelIn claim c → IsOwnIn claim answers (step_row (with_functions rows owing.functions) claim.plan shared number c)
  unfolding step_row
  own-step shared number c all here = by c.phase
    where
      by : (phase : Phase) → IsOwnIn claim answers (step_in (with_functions rows owing.functions) phase claim.plan shared number c)
      by Ready = own-step_at shared number c all here (entry_found claim.plan c.place) refl
      by (Digits digits is_background) = own-refused NotReady shared c all here
      by Pause = own-refused NotReady shared c all here
      by (Queued queue goes_on has_timer) = own-refused NotReady shared c all here
      by (Talking queue agent goes_on) = own-refused NotReady shared c all here
      by (Dialling goes_on has_timer) = own-refused NotReady shared c all here
      by Ended = own-refused refused_ended shared c all here

  -- a value that is set from outside
  own-assigned : (target : SettingTarget) (value : List ℕ) (shared : SharedState) (c : Channel) → IsSharedIn claim shared → IsChannelIn claim c → MayBeSet claim target value
      → IsOwnIn claim answers (assign_value target value shared c)
  own-assigned (Variable name) value shared c all here may = own-taken shared _ all (in-with_value owing claim answers closed c name value here may)
  own-assigned (Global name) value shared c all here may =
      own-taken (with_shared_global shared name value) c (shared-global claim shared name value all may) here
  own-assigned (Local name) value shared c all here may =
      own-taken shared _ all (record { place = here.place; store = kept-set_local claim c.store name value here.store may; caller = here.caller; phase = here.phase })
  own-assigned Caller value shared c all here may = own-taken shared _ all (record { place = here.place; store = here.store; caller = may; phase = here.phase })
  own-assigned Nothing value shared c all here may = own-taken shared c all here

  pub own-assign : (name value : List ℕ) (shared : SharedState) (number : ℕ) (c : Channel) → IsSharedIn claim shared → IsChannelIn claim c
      → MayBeSet claim (owing.functions.target name) value → IsOwnIn claim answers (assign_row owing.functions name value claim.plan shared number c)
  unfolding assign_row
  own-assign name value shared number c all here may = by (is_over c.phase)
    where
      by : (b : Bool) → IsOwnIn claim answers (if b then refuse refused_ended shared c else assign_value (owing.functions.target name) value shared c)
      by true = own-refused refused_ended shared c all here
      by false = own-assigned (owing.functions.target name) value shared c all here may

  -- a digit
  own-way_out : (shared : SharedState) (number : ℕ) (c : Channel) (digit queue : ℕ) → IsSharedIn claim shared → IsChannelIn claim c → is_digit digit ≡ true → LeadsOut claim queue
      → IsOwnIn claim answers (way_out claim.plan shared number c digit (way_out_of shared.queues queue))
  own-way_out shared number c digit queue all here is leads =
      subst (λ context. IsOwnIn claim answers (way_out claim.plan shared number c digit context)) (sym (way-is owing claim answers closed shared queue all))
      (by (is_found claim.plan (way_of claim.settings queue) (digit ∷ []) 1))
    where
      by : (b : Bool) → IsOwnIn claim answers (if b then take_event (without_caller shared number) (ready_at c (place_of (way_of claim.settings queue) (digit ∷ []) 1)) else take_event shared c)
      by true =
          own-taken (without_caller shared number) (ready_at c (place_of (way_of claim.settings queue) (digit ∷ []) 1)) (shared-left shared number all)
          (in-ready owing claim answers closed c (place_of (way_of claim.settings queue) (digit ∷ []) 1) here (leads digit is))
      by false = own-taken shared c all here

  more-dialled : (c : Channel) (digits : List ℕ) (digit : ℕ) → is_digit digit ≡ true → IsDialled claim c.place digits → IsDialled claim c.place (digits ++ digit ∷ [])
  more-dialled c digits digit is dials =
      record { text = each-append (λ b. is_digit b ≡ true) digits (digit ∷ []) dials.text (is, tt); leads = dials.leads; timeout = dials.timeout }

  own-dial : (digit : ℕ) (shared : SharedState) (number : ℕ) (c : Channel) → IsSharedIn claim shared → IsChannelIn claim c → (phase : Phase) → IsPhaseIn claim c.place phase
      → (is_over phase || is_digit digit) ≡ true → IsOwnIn claim answers (dial_in phase digit claim.plan shared number c)
  own-dial digit shared number c all here Ready at is = own-refused NotWaiting shared c all here
  own-dial digit shared number c all here (Digits digits is_background) at is =
      own-taken shared _ all (in-after_digit owing claim answers closed c (could_go_on claim.plan c.place.context (digits ++ digit ∷ [])) (digits ++ digit ∷ []) is_background here
      (more-dialled c digits digit is at))
  own-dial digit shared number c all here Pause at is = own-taken shared c all here
  own-dial digit shared number c all here (Queued queue goes_on has_timer) at is = own-way_out shared number c digit queue all here is at
  own-dial digit shared number c all here (Talking queue agent goes_on) at is = own-refused NotWaiting shared c all here
  own-dial digit shared number c all here (Dialling goes_on has_timer) at is = own-taken shared c all here
  own-dial digit shared number c all here Ended at is = own-refused refused_ended shared c all here

  pub own-digit : (digit : ℕ) (shared : SharedState) (number : ℕ) (c : Channel) → IsSharedIn claim shared → IsChannelIn claim c → IsOwnIn claim answers (digit_row digit claim.plan shared number c)
  unfolding digit_row
  own-digit digit shared number c all here = by (is_over c.phase || is_digit digit) refl
    where
      by : (b : Bool) → (is_over c.phase || is_digit digit) ≡ b
          → IsOwnIn claim answers (if b then dial_in c.phase digit claim.plan shared number c else refuse BadDigit shared c)
      by true is = own-dial digit shared number c all here c.phase here.phase is
      by false is = own-refused BadDigit shared c all here

  -- a time-out
  own-leave : (shared : SharedState) (number : ℕ) (c : Channel) (status : List ℕ) → IsSharedIn claim shared → IsChannelIn claim c → Within (claim.names.bytes (codes "QUEUESTATUS")) status
      → IsOwnIn claim answers (leave shared number c status)
  own-leave shared number c status all here is =
      own-taken (without_caller shared number) _ (shared-left shared number all) (in-left_queue owing claim answers closed c status here is)

  pub own-timeout : (shared : SharedState) (number : ℕ) (c : Channel) → IsSharedIn claim shared → IsChannelIn claim c → IsOwnIn claim answers (timeout_row claim.plan shared number c)
  unfolding timeout_row
  own-timeout shared number c all here = by c.phase here.phase
    where
      queue : (timer : Bool) → IsOwnIn claim answers (time_in_queue timer shared number c)
      queue false = own-refused NoTimer shared c all here
      queue true = own-leave shared number c (codes "TIMEOUT") all here closed.named.timeout

      dial : (timer : Bool) → IsOwnIn claim answers (dial_time timer shared c)
      dial false = own-refused NoTimer shared c all here
      dial true = own-taken shared _ all (in-after_no_answer owing claim answers closed c here)

      by : (phase : Phase) → IsPhaseIn claim c.place phase → IsOwnIn claim answers (timeout_in phase claim.plan shared number c)
      by Ready at = own-refused NotWaiting shared c all here
      by (Digits digits is_background) at = own-taken shared _ all (in-timed_out owing claim answers closed c digits is_background here at)
      by Pause at = own-taken shared _ all (in-going_on owing claim answers closed c here)
      by (Queued number goes_on has_timer) at = queue has_timer
      by (Talking queue agent goes_on) at = own-refused NotWaiting shared c all here
      by (Dialling goes_on has_timer) at = dial has_timer
      by Ended at = own-refused refused_ended shared c all here

  -- a channel asks whether it has to leave its queue
  pub own-poll : (shared : SharedState) (number : ℕ) (c : Channel) → IsSharedIn claim shared → IsChannelIn claim c → IsOwnIn claim answers (poll_row claim.plan shared number c)
  unfolding poll_row
  own-poll shared number c all here = by c.phase
    where
      asked : (leaves : Bool) → IsOwnIn claim answers (poll_queue leaves shared number c)
      asked false = own-taken shared c all here
      asked true = own-leave shared number c (codes "LEAVEEMPTY") all here closed.named.leave

      by : (phase : Phase) → IsOwnIn claim answers (poll_in phase claim.plan shared number c)
      by Ready = own-refused NotWaiting shared c all here
      by (Digits digits is_background) = own-refused NotWaiting shared c all here
      by Pause = own-refused NotWaiting shared c all here
      by (Queued queue goes_on has_timer) = asked (should_leave shared.queues queue)
      by (Talking queue agent goes_on) = own-refused NotWaiting shared c all here
      by (Dialling goes_on has_timer) = own-refused NotWaiting shared c all here
      by Ended = own-refused refused_ended shared c all here

  -- a hang-up
  pub own-hang_up : (shared : SharedState) (number : ℕ) (c : Channel) → IsSharedIn claim shared → IsChannelIn claim c → IsOwnIn claim answers (hang_up_row claim.plan shared number c)
  unfolding hang_up_row
  own-hang_up shared number c all here = by c.phase
    where
      ends : IsChannelIn claim (hung_up claim.plan c)
      ends = in-hung_up owing claim answers closed c here

      by : (phase : Phase) → IsOwnIn claim answers (hang_up_in phase claim.plan shared number c)
      by Ready = own-taken shared _ all ends
      by (Digits digits is_background) = own-taken shared _ all ends
      by Pause = own-taken shared _ all ends
      by (Queued queue goes_on has_timer) = own-taken (without_caller shared number) _ (shared-left shared number all) ends
      by (Talking queue agent goes_on) = own-taken (without_talk shared number) _ (shared-ended shared number all) ends
      by (Dialling goes_on has_timer) = own-taken shared _ all (in-after_cancel owing claim answers closed c here)
      by Ended = own-refused refused_ended shared c all here

  -- the result of a call to devices
  pub own-dial_result : (status : DialStatus) (shared : SharedState) (number : ℕ) (c : Channel) → IsSharedIn claim shared → IsChannelIn claim c
      → IsOwnIn claim answers (dial_result_row status claim.plan shared number c)
  unfolding dial_result_row
  own-dial_result status shared number c all here = by c.phase
    where
      by : (phase : Phase) → IsOwnIn claim answers (dial_result_in phase status claim.plan shared number c)
      by Ready = own-refused NotDialling shared c all here
      by (Digits digits is_background) = own-refused NotDialling shared c all here
      by Pause = own-refused NotDialling shared c all here
      by (Queued queue goes_on has_timer) = own-refused NotDialling shared c all here
      by (Talking queue agent goes_on) = own-refused NotDialling shared c all here
      by (Dialling goes_on has_timer) = own-taken shared _ all (in-after_dialling owing claim answers closed c status goes_on here)
      by Ended = own-refused refused_ended shared c all here
