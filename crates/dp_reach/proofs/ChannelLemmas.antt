-- A channel in the reach stays in it, whatever happens to it.
use Rattle.std.proofs.Common.{◌≡◌, ◌⊎◌, inl, inr, ℕ, ◌+◌, ◌-◌, Bool, true, false, List, [], ◌∷◌, length, Option, Some, None, unwrap_or, slice_get, refl, sym, ap, ◌∙◌, codes, if◌then◌else◌}
use Rattle.std.proofs.lemmas.Option.{slice_get-map}
use Rattle.std.specs.List.{AllByRecursion}
use Rattle.std.specs.Option.{option_map}
use Rattle.dp_plan.specs.declared.entry.EntryId.{EntryId}
use Rattle.dp_queue.specs.Queues.{QueueOf}
use Rattle.dp_vars.specs.Stores.{StoreFrame, innermost}
use Rattle.dp_queue.specs.declared.settings.Settings.{Settings}
use Rattle.dp_machine.specs.Channels.{ChannelChange, Stays, TalkEnds, Talks, after_cancel, after_change, after_digit, after_dialling, ends_call, going_on, goes_on_after, hung_up, invalid, is_invalid, at_place_or_back, at_target, back_by, left_queue, after_move, ready_at, ready_in, runs_hang_up, after_talk, timed_out, after_no_answer, without_digits, after_wait, after_application, with_dial_status, with_value, without_frames}
use Rattle.dp_machine.specs.Codes.{status_name}
use Rattle.dp_machine.specs.Events.{way_out_of}
use Rattle.dp_machine.specs.Found.{is_found}
use Rattle.dp_machine.specs.Targets.{if_found, parts_place, place_of, target_place}
use Rattle.dp_machine.specs.declared.channel.Channel.{Channel}
use Rattle.dp_machine.specs.declared.dial_status.DialStatus.{DialStatus}
use Rattle.dp_machine.specs.declared.shared_state.SharedState.{SharedState}
use Rattle.dp_app.specs.declared.moves.Move.{Move}
use Rattle.dp_app.specs.declared.moves.Move.TheVariants.{Next, Jump, Enter, Park, Hang}
use Rattle.dp_app.specs.declared.phase.Phase.TheVariants.{Ended}
use Rattle.dp_app.specs.declared.place.Place.{Place}
use Rattle.dp_pieces.specs.Bytes.{Within}
use Rattle.dp_pieces.specs.Pieces.{pieces_set}
use Rattle.dp_pieces.proofs.FitsLemmas.{fits-exactly, fits-set}
use Rattle.dp_pieces.proofs.WithinLemmas.{within-more}
use Rattle.dp_reach.specs.Areas.{Area, Covers, Includes, IsIn, IsInOne, IsUnknown, beside}
use Rattle.dp_reach.specs.Bounds.{Obligations}
use Rattle.dp_reach.specs.Closed.{IsAreaClosed, IsClosed}
use Rattle.dp_reach.specs.Holding.{Claim, IsChannelIn, IsDialled, IsSharedIn, LeadsInto, way_of}
use Rattle.dp_reach.proofs.StoreLemmas.{each-get, kept-set, kept-without_frame}
use Rattle.dp_reach.proofs.TargetLemmas.{covers-same}
use Rattle.dp_reach.proofs.UnknownLemmas.{unknown-invalid}

-- the area of a covered place
pub record IsFound (P : Area → Type 0) (place : Place) : Type 0 where
  pub area : Area
  pub inside : IsIn area place
  pub holds : P area

pub found_in_area : (P : Area → Type 0) (areas : List Area) (place : Place) → AllByRecursion P areas → IsInOne areas place → IsFound P place
found_in_area P [] place all is = absurd is
found_in_area P (area ∷ areas) place all (inl here) = record { area = area; inside = here; holds = all.0 }
found_in_area P (area ∷ areas) place all (inr there) = found_in_area P areas place all.1 there

module _ (owing : Obligations) (claim : Claim) (answers : EntryId → Bool) (closed : IsClosed owing claim answers) where
  -- the area of a covered place, if its context is known
  pub area-of : (place : Place) → Covers claim.plan claim.reach place → IsUnknown claim.plan place.context ⊎ IsFound (IsAreaClosed owing claim answers) place
  area-of place (inl unknown) = inl unknown
  area-of place (inr is) = inr (found_in_area (IsAreaClosed owing claim answers) claim.reach place closed.areas is)

  -- an extension of its context
  covers-beside : (place : Place) (exten : List ℕ) → ((area : Area) → IsAreaClosed owing claim answers area → Includes claim.plan claim.reach (beside area exten))
      → IsUnknown claim.plan place.context ⊎ IsFound (IsAreaClosed owing claim answers) place → Covers claim.plan claim.reach (place_of place.context exten 1)
  covers-beside place exten includes (inl unknown) = inl unknown
  covers-beside place exten includes (inr found) =
      includes found.area found.holds (place_of place.context exten 1) (record { context = found.inside.context; exten = fits-exactly exten })

  pub in-ready : (c : Channel) (place : Place) → IsChannelIn claim c → Covers claim.plan claim.reach place → IsChannelIn claim (ready_at c place)
  in-ready c place here covers = record { place = covers; store = here.store; caller = here.caller; phase = tt }

  pub in-going_on : (c : Channel) → IsChannelIn claim c → IsChannelIn claim (going_on c)
  in-going_on c here =
      in-ready c (place_of c.place.context c.place.exten (c.place.priority + 1)) here
      (covers-same claim.plan claim.reach c.place (place_of c.place.context c.place.exten (c.place.priority + 1)) refl refl here.place)

  -- a hang-up
  in-closing : (c : Channel) (runs : Bool) → IsChannelIn claim c
      → IsChannelIn claim (if runs then record (ready_in (without_frames c) (codes "h")) { is_closing = true } else record (without_frames c) { phase = Ended })
  in-closing c true here = record {
    place = covers-beside c.place (codes "h") (λ area holds. holds.hang) (area-of c.place here.place);
    store = record { variables = here.store.variables; locals = tt; back = tt };
    caller = here.caller;
    phase = tt;
  }
  in-closing c false here =
      record { place = here.place; store = record { variables = here.store.variables; locals = tt; back = tt }; caller = here.caller; phase = tt }

  pub in-hung_up : (c : Channel) → IsChannelIn claim c → IsChannelIn claim (hung_up claim.plan c)
  unfolding hung_up
  in-hung_up c here = in-closing c (runs_hang_up claim.plan c) here

  -- a value that is set
  pub in-with_value : (c : Channel) (name value : List ℕ) → IsChannelIn claim c → Within (claim.names.bytes name) value → IsChannelIn claim (with_value c name value)
  in-with_value c name value here is = record { place = here.place; store = kept-set claim c.store name value here.store is; caller = here.caller; phase = here.phase }

  -- a move
  in-at_target : (c : Channel) (o : Option Place) → IsChannelIn claim c → ((place : Place) → o ≡ Some place → Covers claim.plan claim.reach place) → IsChannelIn claim (at_target claim.plan c o)
  in-at_target c None here leads = in-hung_up c here
  in-at_target c (Some place) here leads = in-ready c place here (leads place refl)

  -- back from the innermost frame
  in-back_by : (c : Channel) (o : Option (StoreFrame Place)) → IsChannelIn claim c → innermost c.store.frames ≡ o → IsChannelIn claim (back_by claim.plan c o)
  in-back_by c None here is = in-hung_up c here
  in-back_by c (Some frame) here is = record {
    place = each-get (λ (frame : StoreFrame Place). Covers claim.plan claim.reach frame.back) c.store.frames (length c.store.frames - 1) frame here.store.back is;
    store = kept-without_frame claim c.store here.store;
    caller = here.caller;
    phase = tt;
  }

  in-at_place_or_back : (c : Channel) (o : Option Place) → IsChannelIn claim c → ((place : Place) → o ≡ Some place → Covers claim.plan claim.reach place)
      → IsChannelIn claim (at_place_or_back claim.plan c o)
  in-at_place_or_back c None here leads = in-back_by c (innermost c.store.frames) here refl
  in-at_place_or_back c (Some place) here leads = in-ready c place here (leads place refl)

  in-after_move : (c : Channel) (move : Move) → IsChannelIn claim c → LeadsInto claim c.place move → IsChannelIn claim (after_move claim.plan c move)
  in-after_move c Next here leads = in-going_on c here
  in-after_move c (Jump target) here leads = in-at_target c (target_place claim.plan c.place target) here leads
  in-after_move c (Enter parts) here leads = in-at_place_or_back c (if_found claim.plan (parts_place claim.plan c.place parts)) here leads
  in-after_move c (Park phase) here leads = record { place = here.place; store = here.store; caller = here.caller; phase = leads }
  in-after_move c Hang here leads = in-hung_up c here

  -- the extension `i`
  within-invalid : (place : Place) → is_invalid claim.plan place ≡ true → IsUnknown claim.plan place.context ⊎ IsFound (IsAreaClosed owing claim answers) place
      → Within (claim.names.bytes (codes "INVALID_EXTEN")) place.exten
  within-invalid place is (inl unknown) = absurd (unknown-invalid claim.plan place unknown is)
  within-invalid place is (inr found) =
      within-more (pieces_set found.area.exten) _ found.holds.named.invalid place.exten (fits-set found.area.exten place.exten found.inside.exten)

  pub in-invalid : (c : Channel) → is_invalid claim.plan c.place ≡ true → IsChannelIn claim c → IsChannelIn claim (invalid c)
  in-invalid c is here =
      in-ready (with_value c (codes "INVALID_EXTEN") c.place.exten) (place_of c.place.context (codes "i") 1)
      (in-with_value c (codes "INVALID_EXTEN") c.place.exten here (within-invalid c.place is (area-of c.place here.place)))
      (covers-beside c.place (codes "i") (λ area holds. holds.invalid) (area-of c.place here.place))

  -- digits
  pub in-after_digit : (c : Channel) (more : Bool) (digits : List ℕ) (is_background : Bool) → IsChannelIn claim c → IsDialled claim c.place digits
      → IsChannelIn claim (after_digit more c digits is_background)
  in-after_digit c true digits is_background here dials = record { place = here.place; store = here.store; caller = here.caller; phase = dials }
  in-after_digit c false digits is_background here dials = in-ready c (place_of c.place.context digits 1) here (dials.leads digits 1 dials.text)

  in-after_wait : (c : Channel) (digits : List ℕ) → IsChannelIn claim c → IsDialled claim c.place digits → IsChannelIn claim (after_wait claim.plan c)
  in-after_wait c digits here dials =
      by (is_found claim.plan c.place.context c.place.exten (c.place.priority + 1)) (is_found claim.plan c.place.context (codes "t") 1)
    where
      by : (next timeout : Bool) → IsChannelIn claim (if next then going_on c else if timeout then ready_in c (codes "t") else hung_up claim.plan c)
      by true timeout = in-going_on c here
      by false true = in-ready c (place_of c.place.context (codes "t") 1) here (dials.timeout 1)
      by false false = in-hung_up c here

  in-without_digits : (c : Channel) (digits : List ℕ) (is_background : Bool) → IsChannelIn claim c → IsDialled claim c.place digits → IsChannelIn claim (without_digits claim.plan c is_background)
  in-without_digits c digits true here dials = in-going_on c here
  in-without_digits c digits false here dials = in-after_wait c digits here dials

  pub in-timed_out : (c : Channel) (digits : List ℕ) (is_background : Bool) → IsChannelIn claim c → IsDialled claim c.place digits
      → IsChannelIn claim (timed_out claim.plan c digits is_background)
  in-timed_out c [] is_background here dials = in-without_digits c [] is_background here dials
  in-timed_out c (b ∷ bs) is_background here dials = in-ready c (place_of c.place.context (b ∷ bs) 1) here (dials.leads (b ∷ bs) 1 dials.text)

  -- queues
  pub in-left_queue : (c : Channel) (status : List ℕ) → IsChannelIn claim c → Within (claim.names.bytes (codes "QUEUESTATUS")) status → IsChannelIn claim (left_queue c status)
  in-left_queue c status here is = in-going_on (with_value c (codes "QUEUESTATUS") status) (in-with_value c (codes "QUEUESTATUS") status here is)

  pub in-after_talk : (c : Channel) (goes_on : Bool) → IsChannelIn claim c → IsChannelIn claim (after_talk claim.plan c goes_on)
  in-after_talk c true here = in-left_queue c (codes "CONTINUE") here closed.named.talked
  in-after_talk c false here = in-hung_up c here

  pub in-after_change : (change : ChannelChange) (c : Channel) → IsChannelIn claim c → IsChannelIn claim (after_change claim.plan change c)
  in-after_change Stays c here = here
  in-after_change (Talks queue agent) c here = record { place = here.place; store = here.store; caller = here.caller; phase = tt }
  in-after_change TalkEnds c here = in-after_talk c (goes_on_after c.phase) here

  -- calls to devices
  in-status : (c : Channel) (status : List ℕ) → IsChannelIn claim c → Within (claim.names.bytes (codes "DIALSTATUS")) status → IsChannelIn claim (with_dial_status c status)
  in-status c status here is = in-with_value c (codes "DIALSTATUS") status here is

  pub in-after_no_answer : (c : Channel) → IsChannelIn claim c → IsChannelIn claim (after_no_answer c)
  in-after_no_answer c here = in-going_on (with_dial_status c (codes "NOANSWER")) (in-status c (codes "NOANSWER") here closed.named.unanswered)

  pub in-after_cancel : (c : Channel) → IsChannelIn claim c → IsChannelIn claim (after_cancel claim.plan c)
  in-after_cancel c here = in-hung_up (with_dial_status c (codes "CANCEL")) (in-status c (codes "CANCEL") here closed.named.cancelled)

  pub in-after_dialling : (c : Channel) (status : DialStatus) (goes_on : Bool) → IsChannelIn claim c → IsChannelIn claim (after_dialling claim.plan c status goes_on)
  in-after_dialling c status goes_on here = by (ends_call status goes_on)
    where
      set : IsChannelIn claim (with_dial_status c (status_name status))
      set = in-status c (status_name status) here (closed.named.status status)

      by : (ends : Bool) → IsChannelIn claim (if ends then hung_up claim.plan (with_dial_status c (status_name status)) else going_on (with_dial_status c (status_name status)))
      by true = in-hung_up (with_dial_status c (status_name status)) set
      by false = in-going_on (with_dial_status c (status_name status)) set

  -- the channel after an application
  pub in-after_application : (c : Channel) (o : Option Move) → IsChannelIn claim c → ((move : Move) → o ≡ Some move → LeadsInto claim c.place move) → IsChannelIn claim (after_application claim.plan c o)
  in-after_application c None here leads = in-hung_up c here
  in-after_application c (Some move) here leads = in-after_move c move here (leads move refl)

  -- the context of the ways out
  pub way-is : (shared : SharedState) (queue : ℕ) → IsSharedIn claim shared → way_out_of shared.queues queue ≡ way_of claim.settings queue
  way-is shared queue here =
      by (slice_get shared.queues.queues queue)
      ∙ (ap (λ (o : Option Settings). unwrap_or (option_map (λ s. s.context) o) []) (sym (slice_get-map (λ (q : QueueOf). q.settings) shared.queues.queues queue))
      ∙ ap (λ settings. way_of settings queue) here.settings)
    where
      by : (o : Option QueueOf) → unwrap_or (option_map (λ q. q.settings.context) o) [] ≡ unwrap_or (option_map (λ s. s.context) (option_map (λ q. q.settings) o)) []
      by None = refl
      by (Some q) = refl
