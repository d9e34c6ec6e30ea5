-- What a step over a lawful table preserves of a channel.
use Rattle.std.proofs.Common.{◌≡◌, ◌≤◌, if◌then◌else◌, codes, ℕ, Bool, true, false, List, length, Option, Some, None, Ok, refl, sym, ap, subst, ◌∙◌}
use Rattle.dp_plan.specs.Plan.{PlanOf}
use Rattle.dp_vars.specs.Stores.{StoreFrame, innermost}
use Rattle.dp_plan.specs.declared.entry.Entry.{Entry}
use Rattle.dp_plan.specs.declared.entry.EntryId.{EntryId}
use Rattle.dp_app.specs.Lawful.{ParksNowhere, IsLawful, IsLawfulRow, MayGo, MayPark, MayRun}
use Rattle.dp_conf.specs.Numbers.{most_priority}
use Rattle.dp_app.specs.Rows.{Meanings, Row, Rows, after_dispatch}
use Rattle.dp_app.specs.Cells.{CellOf}
use Rattle.dp_app.specs.declared.moves.Move.{Move}
use Rattle.dp_app.specs.declared.moves.Move.TheVariants.{Next, Jump, Enter, Park, Hang}
use Rattle.dp_app.specs.declared.phase.Phase.{Phase}
use Rattle.dp_app.specs.declared.phase.Phase.TheVariants.{Ready, Digits, Pause, Queued, Talking, Dialling, Ended}
use Rattle.dp_app.specs.declared.place.Place.{Place}
use Rattle.dp_app.specs.declared.touch.Touch.{Touch}
use Rattle.dp_machine.specs.Channels.{back_by, at_place_or_back, hung_up, invalid, is_invalid, at_target, after_move, ready_in, runs_hang_up, after_application, without_frames}
use Rattle.dp_machine.specs.Events.{Applied, Own, application_outcome, cell_of, is_refused_at_once, after_run, step_at, step_without_entry}
use Rattle.dp_machine.specs.steps.Follows.{Follows}
use Rattle.dp_machine.specs.Found.{Located, entry_found}
use Rattle.dp_machine.specs.GoodWorld.{IsSoundIn, MayAct, queue_in, talk_in}
use Rattle.dp_machine.specs.Seen.{arguments_seen}
use Rattle.dp_machine.specs.Targets.{if_found, parts_place, target_place}
use Rattle.dp_machine.specs.declared.channel.Channel.{Channel}
use Rattle.dp_machine.specs.declared.exchange.Exchange.{Exchange}
use Rattle.dp_machine.specs.declared.reply.Reply.TheVariants.{Invalid, NoEntry, Ran}
use Rattle.dp_machine.specs.declared.shared_state.SharedState.{SharedState}

-- after an application the channel is sound where it goes
abbrev pub IsSoundAfter : PlanOf → Applied → Type 0
IsSoundAfter plan beyond = IsSoundIn (after_application plan beyond.channel beyond.going).phase (after_application plan beyond.channel beyond.going)

-- an optional row is lawful if it exists
abbrev pub IsLawfulAt : Touch → Option Row → Type 0
IsLawfulAt touch row = (meaning : Row) → row ≡ Some meaning → IsLawfulRow touch meaning

-- a channel that is hung up is sound
hung_up_sound_by : (runs : Bool) (c closed : Channel) → closed.phase ≡ Ready
    → IsSoundIn (if runs then closed else record (without_frames c) { phase = Ended }).phase (if runs then closed else record (without_frames c) { phase = Ended })
hung_up_sound_by true c closed ready = subst (λ phase. IsSoundIn phase closed) (sym ready) tt
hung_up_sound_by false c closed ready = refl

pub hung_up_sound : (plan : PlanOf) (c : Channel) → IsSoundIn (hung_up plan c).phase (hung_up plan c)
unfolding hung_up
hung_up_sound plan c = hung_up_sound_by (runs_hang_up plan c) c (record (ready_in (without_frames c) (codes "h")) { is_closing = true }) refl

-- and so is one that goes to a target, whether or not the target is a place
pub landed_sound : (plan : PlanOf) (c : Channel) (place : Option Place) → IsSoundIn (at_target plan c place).phase (at_target plan c place)
landed_sound plan c None = hung_up_sound plan c
landed_sound plan c (Some place) = tt

-- and one that goes back from a frame
back_sound : (plan : PlanOf) (c : Channel) (frame : Option (StoreFrame Place)) → IsSoundIn (back_by plan c frame).phase (back_by plan c frame)
back_sound plan c None = hung_up_sound plan c
back_sound plan c (Some frame) = tt

pub entered_sound : (plan : PlanOf) (c : Channel) (place : Option Place) → IsSoundIn (at_place_or_back plan c place).phase (at_place_or_back plan c place)
entered_sound plan c None = back_sound plan c (innermost c.store.frames)
entered_sound plan c (Some place) = tt

-- a channel that waits as its application allows is sound, if it is not closing and is at a priority of an entry
pub parked_sound : (count : ℕ) (phase : Phase) (c : Channel) → MayPark count phase → c.place.priority ≤ most_priority → c.is_closing ≡ false
    → IsSoundIn phase (record c { phase = phase })
parked_sound count Ready c may within closing = tt
parked_sound count (Digits text is_background) c may within closing = (within, closing)
parked_sound count Pause c may within closing = (within, closing)
parked_sound count (Queued queue goes_on has_timer) c may within closing = (within, closing)
parked_sound count (Talking queue agent goes_on) c may within closing = absurd may
parked_sound count (Dialling goes_on has_timer) c may within closing = (within, closing)
parked_sound count Ended c may within closing = absurd may

-- a closing channel never begins to wait
closed_false : (closing : Bool) (phase : Phase) → (closing ≡ true → ParksNowhere (Park phase)) → closing ≡ false
closed_false true phase closes = absurd (closes refl)
closed_false false phase closes = refl

-- a channel that an application sends somewhere by the laws is sound
pub moved_sound : (plan : PlanOf) (count : ℕ) (c : Channel) (going : Move) → MayGo count going → (c.is_closing ≡ true → ParksNowhere going)
    → c.place.priority ≤ most_priority → IsSoundIn (after_move plan c going).phase (after_move plan c going)
moved_sound plan count c Next may closes within = tt
moved_sound plan count c (Jump target) may closes within = landed_sound plan c (target_place plan c.place target)
moved_sound plan count c (Enter parts) may closes within = entered_sound plan c (if_found plan (parts_place plan c.place parts))
moved_sound plan count c (Park phase) may closes within = parked_sound count phase c may within (closed_false c.is_closing phase closes)
moved_sound plan count c Hang may closes within = hung_up_sound plan c

-- a channel that ran an application is sound where it goes
applied_sound : (plan : PlanOf) (touch : Touch) (row : Option Row) → IsLawfulAt touch row → (arguments : List ℕ) (shared : SharedState) (number : ℕ) (c : Channel)
    → c.place.priority ≤ most_priority → IsSoundAfter plan (application_outcome c (after_dispatch row arguments (cell_of shared number c)))
applied_sound plan touch None lawful arguments shared number c within = hung_up_sound plan c
applied_sound plan touch (Some row) lawful arguments shared number c within =
    let laws : IsLawfulRow touch row = lawful row refl in
    let cell : CellOf = cell_of shared number c in
    moved_sound plan (length shared.queues.queues) (application_outcome c (after_dispatch (Some row) arguments cell)).channel (row arguments cell).next
    (laws.parks arguments cell) (laws.closes arguments cell) within

pub went_sound : (touches : List ℕ → Touch) (rows : Rows) → IsLawful touches rows → (plan : PlanOf) (name arguments : List ℕ) (shared : SharedState) (number : ℕ) (c : Channel)
    → c.place.priority ≤ most_priority → (beyond : Applied) → application_outcome c (after_dispatch (rows name) arguments (cell_of shared number c)) ≡ beyond
    → (now : Channel) → now ≡ after_application plan beyond.channel beyond.going → IsSoundIn now.phase now
went_sound touches rows lawful plan name arguments shared number c within beyond after_run now gone =
    subst (λ n. IsSoundIn n.phase n) (sym gone)
    (subst (IsSoundAfter plan) after_run (applied_sound plan (touches name) (rows name) (lawful name) arguments shared number c within))

-- a step that finds no entry is not refused
unfound_taken_by : (invalid : Bool) (after_application other : Own) → is_refused_at_once after_application.reply ≡ false → is_refused_at_once other.reply ≡ false
    → is_refused_at_once (if invalid then after_application else other).reply ≡ false
unfound_taken_by true after_application other a b = a
unfound_taken_by false after_application other a b = b

pub unfound_taken : (plan : PlanOf) (shared : SharedState) (c : Channel) → is_refused_at_once (step_without_entry plan shared c).reply ≡ false
unfolding step_without_entry
unfound_taken plan shared c =
    unfound_taken_by (is_invalid plan c.place) (record { channel = invalid c; shared = shared; reply = Invalid })
    (record { channel = hung_up plan c; shared = shared; reply = NoEntry }) refl refl

-- nor is one that finds its entry
pub found_taken : (meanings : Meanings) (plan : PlanOf) (shared : SharedState) (number : ℕ) (c : Channel) (found : Option Located)
    → is_refused_at_once (step_at meanings plan shared number c found).reply ≡ false
found_taken meanings plan shared number c None = unfound_taken plan shared c
found_taken meanings plan shared number c (Some found) = refl

-- the row of a step that finds its entry, runs its application and goes where that sends the channel
pub follows-found : (meanings : Meanings) (number : ℕ) (before after : Exchange) (c d beyond : Channel) (shared : SharedState) (id : EntryId) (entry : Entry) (going : Option Move)
    → entry_found before.plan c.place ≡ Some (record { id = id; entry = entry })
    → application_outcome c (after_dispatch (meanings.rows entry.application) (arguments_seen meanings.functions before.shared number c entry.arguments) (cell_of before.shared number c))
    ≡ record { channel = beyond; shared = shared; going = going }
    → d ≡ after_application before.plan beyond going → after.plan ≡ before.plan → after.shared ≡ shared
    → Follows (step_at meanings before.plan before.shared number c (entry_found before.plan c.place)) before after c d (Ok (Ran id))
follows-found meanings number before after c d beyond shared id entry going found run after_application same_plan same_shared = record {
  ok =
      ap (step_at meanings before.plan before.shared number c) found
      ∙ (ap (after_run before.plan id) run ∙ (λ i. record { channel = sym after_application i; shared = sym same_shared i; reply = Ran id }));
  plan = same_plan;
  channel = tt;
  shared = tt;
  refused = tt;
}

-- a ready channel at a priority of an entry may run an application
pub ready_may_run : (shared : SharedState) (number : ℕ) (c : Channel) → MayAct shared number c → c.phase ≡ Ready → c.place.priority ≤ most_priority
    → MayRun (cell_of shared number c)
ready_may_run shared number c act ready within = record {
  within = within;
  waits_nowhere = act.waits ∙ ap queue_in ready;
  talks_with_nobody = act.silent (ap talk_in ready);
}
