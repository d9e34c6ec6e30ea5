-- The step of a channel over a lawful table of applications.
use Rattle.std.proofs.Common.{◌≡◌, ℕ, ◌≤◌, Bool, true, false, List, length, Option, Some, None, refl, ap, if◌then◌else◌}
use Rattle.dp_queue.specs.Queues.{QueuesOf}
use Rattle.dp_plan.specs.Plan.{PlanOf}
use Rattle.dp_plan.specs.declared.entry.EntryId.{EntryId}
use Rattle.dp_conf.specs.Numbers.{most_priority}
use Rattle.dp_app.specs.Lawful.{ParksNowhere, IsLawful, IsLawfulRow, MayGo, MayPark}
use Rattle.dp_app.specs.Rows.{Row, Meanings, after_dispatch}
use Rattle.dp_app.specs.Cells.{CellOf}
use Rattle.dp_app.specs.declared.moves.Move.{Move}
use Rattle.dp_app.specs.declared.moves.Move.TheVariants.{Next, Jump, Enter, Park, Hang}
use Rattle.dp_app.specs.declared.phase.Phase.{Phase}
use Rattle.dp_app.specs.declared.phase.Phase.TheVariants.{Ready, Digits, Pause, Queued, Talking, Dialling, Ended as phase_ended}
use Rattle.dp_app.specs.declared.place.Place.{Place}
use Rattle.dp_app.specs.declared.touch.Touch.{Touch}
use Rattle.dp_machine.specs.Channels.{hung_up, invalid, is_invalid, at_target, after_move}
use Rattle.dp_machine.specs.Events.{Own, application_outcome, cell_of, after_run, step_at, step_in, step_row, step_without_entry}
use Rattle.dp_machine.specs.Found.{Located, entry_found}
use Rattle.dp_machine.specs.GoodWorld.{IsSoundIn, IsSoundOwn, queue_in, talk_in}
use Rattle.dp_machine.specs.Seen.{arguments_seen}
use Rattle.dp_machine.specs.Targets.{if_found, parts_place, target_place}
use Rattle.dp_machine.specs.declared.channel.Channel.{Channel}
use Rattle.dp_machine.specs.declared.reply.Reply.TheVariants.{Invalid, NoEntry}
use Rattle.dp_machine.specs.declared.shared_state.SharedState.{SharedState}
use Rattle.dp_machine.proofs.StepLemmas.{entered_sound}
use Rattle.dp_machine.proofs.TieLemmas.{Ties}
use Rattle.dp_machine.proofs.TieQueues.{Rests}
use Rattle.dp_machine.proofs.TieRows.{Acts}
use Rattle.dp_machine.proofs.TieSteps.{hung_up-rests, hung_up-sound, ties-after_move, ties-rests}

-- the channel agrees with the queues after its event
abbrev pub IsTied : ℕ → QueuesOf → Own → Type 0
IsTied number before own = Ties number before own.shared.queues own.channel.phase

-- a channel at the place of a target is sound
at_target-sound : (plan : PlanOf) (c : Channel) (o : Option Place) → IsSoundIn (at_target plan c o).phase (at_target plan c o)
at_target-sound plan c None = hung_up-sound plan c
at_target-sound plan c (Some place) = tt

parked-sound : (c : Channel) (count : ℕ) (phase : Phase) → MayPark count phase → c.place.priority ≤ most_priority → c.is_closing ≡ false
    → IsSoundIn phase (record c { phase = phase })
parked-sound c count Ready may within stays = tt
parked-sound c count (Digits digits is_background) may within stays = (within, stays)
parked-sound c count Pause may within stays = (within, stays)
parked-sound c count (Queued queue goes_on has_timer) may within stays = (within, stays)
parked-sound c count (Talking queue agent goes_on) may within stays = (within, stays)
parked-sound c count (Dialling goes_on has_timer) may within stays = (within, stays)
parked-sound c count phase_ended may within stays = absurd may

pub after_move-sound : (plan : PlanOf) (c : Channel) (count : ℕ) (going : Move) → MayGo count going → (c.is_closing ≡ true → ParksNowhere going)
    → c.place.priority ≤ most_priority → IsSoundIn (after_move plan c going).phase (after_move plan c going)
after_move-sound plan c count Next may goes within = tt
after_move-sound plan c count (Jump target) may goes within = at_target-sound plan c (target_place plan c.place target)
after_move-sound plan c count (Enter parts) may goes within = entered_sound plan c (if_found plan (parts_place plan c.place parts))
after_move-sound plan c count (Park phase) may goes within = parked-sound c count phase may within (stays c.is_closing goes)
  where
    stays : (b : Bool) → (b ≡ true → ⊥) → b ≡ false
    stays true goes = absurd (goes refl)
    stays false goes = refl
after_move-sound plan c count Hang may goes within = hung_up-sound plan c

module _ (plan : PlanOf) (shared : SharedState) (number : ℕ) (c : Channel) (ties : Ties number shared.queues shared.queues c.phase) where
  -- a step that finds no entry
  unfound-acts : Rests c.phase → Acts number shared.queues (step_without_entry plan shared c)
  unfolding step_without_entry
  unfound-acts rests = by (is_invalid plan c.place)
    where
      by : (b : Bool) → Acts number shared.queues
          (if b then record { channel = invalid c; shared = shared; reply = Invalid } else record { channel = hung_up plan c; shared = shared; reply = NoEntry })
      by true = record { ties = ties-rests number shared.queues shared.queues c.phase Ready ties rests (refl, refl); sound = tt }
      by false = record {
        ties = ties-rests number shared.queues shared.queues c.phase (hung_up plan c).phase ties rests (hung_up-rests plan c);
        sound = hung_up-sound plan c;
      }

  module _ (touches : List ℕ → Touch) (meanings : Meanings) (lawful : IsLawful touches meanings.rows) where
    -- after its application a channel agrees with the queues
    app-ties : (id : EntryId) (name arguments : List ℕ) (o : Option Row) → meanings.rows name ≡ o → Rests c.phase
        → IsTied number shared.queues (after_run plan id (application_outcome c (after_dispatch o arguments (cell_of shared number c))))
    app-ties id name arguments None is rests =
        let d : Channel = record c { caller = c.caller; store = c.store } in
        ties-rests number shared.queues shared.queues c.phase (hung_up plan d).phase ties rests (hung_up-rests plan d)
    app-ties id name arguments (Some row) is rests =
        let cell : CellOf = cell_of shared number c in
        let law : IsLawfulRow (touches name) row = lawful name row is in
        let after : CellOf = (row arguments cell).cell in
        ties-after_move (touches name) shared.queues after.queues (law.keeps arguments cell).queues plan number
        (record c { caller = after.caller; store = after.store }) (row arguments cell).next c.phase ties rests (law.parks arguments cell) (law.waits arguments cell)

    -- and is sound
    app-sound : (id : EntryId) (name arguments : List ℕ) (o : Option Row) → meanings.rows name ≡ o → c.place.priority ≤ most_priority
        → IsSoundOwn (after_run plan id (application_outcome c (after_dispatch o arguments (cell_of shared number c))))
    app-sound id name arguments None is within = hung_up-sound plan (record c { caller = c.caller; store = c.store })
    app-sound id name arguments (Some row) is within =
        let cell : CellOf = cell_of shared number c in
        let law : IsLawfulRow (touches name) row = lawful name row is in
        let after : CellOf = (row arguments cell).cell in
        after_move-sound plan (record c { caller = after.caller; store = after.store }) (length shared.queues.queues) (row arguments cell).next
        (law.parks arguments cell) (law.closes arguments cell) within

    -- a step of a channel that is ready, given the entry that is found
    at-ties : (o : Option Located) → Rests c.phase → IsTied number shared.queues (step_at meanings plan shared number c o)
    at-ties None rests = (unfound-acts rests).ties
    at-ties (Some found) rests = app-ties found.id found.entry.application (arguments_seen meanings.functions shared number c found.entry.arguments)
        (meanings.rows found.entry.application) refl rests

    at-sound : (o : Option Located) → Rests c.phase → ((found : Located) → o ≡ Some found → c.place.priority ≤ most_priority)
        → IsSoundOwn (step_at meanings plan shared number c o)
    at-sound None rests within = (unfound-acts rests).sound
    at-sound (Some found) rests within = app-sound found.id found.entry.application (arguments_seen meanings.functions shared number c found.entry.arguments)
        (meanings.rows found.entry.application) refl (within found refl)

    -- a step, given the channel's phase
    in-ties : (p : Phase) → c.phase ≡ p → IsTied number shared.queues (step_in meanings p plan shared number c)
    in-ties Ready is = at-ties (entry_found plan c.place) (ap queue_in is, ap talk_in is)
    in-ties (Digits digits is_background) is = ties
    in-ties Pause is = ties
    in-ties (Queued queue goes_on has_timer) is = ties
    in-ties (Talking queue agent goes_on) is = ties
    in-ties (Dialling goes_on has_timer) is = ties
    in-ties phase_ended is = ties

    in-sound : (p : Phase) → c.phase ≡ p → IsSoundIn c.phase c
        → ((found : Located) → entry_found plan c.place ≡ Some found → c.place.priority ≤ most_priority)
        → IsSoundOwn (step_in meanings p plan shared number c)
    in-sound Ready is sound within = at-sound (entry_found plan c.place) (ap queue_in is, ap talk_in is) within
    in-sound (Digits digits is_background) is sound within = sound
    in-sound Pause is sound within = sound
    in-sound (Queued queue goes_on has_timer) is sound within = sound
    in-sound (Talking queue agent goes_on) is sound within = sound
    in-sound (Dialling goes_on has_timer) is sound within = sound
    in-sound phase_ended is sound within = sound

    -- the event `Step`: the channel agrees with the queues after it
    pub step-ties : IsTied number shared.queues (step_row meanings plan shared number c)
    unfolding step_row
    step-ties = in-ties c.phase refl

    -- and is sound, if its place is at a priority of an entry whenever an entry is found there
    pub step-sound : IsSoundIn c.phase c → ((found : Located) → entry_found plan c.place ≡ Some found → c.place.priority ≤ most_priority)
        → IsSoundOwn (step_row meanings plan shared number c)
    unfolding step_row
    step-sound sound within = in-sound c.phase refl sound within
