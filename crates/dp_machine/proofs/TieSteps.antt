-- The effect of a move of its application on a channel and the queues.
use Rattle.std.proofs.Common.{◌≡◌, ℕ, zero, suc, ◌<◌, ◌==◌, Bool, true, false, List, [], ◌∷◌, ◌++◌, Option, Some, None, refl, sym, ap, ◌∙◌, length, if◌then◌else◌, codes}
use Rattle.std.proofs.lemmas.Option.{none-some}
use Rattle.dp_conf.specs.Changes.{changed_at}
use Rattle.dp_queue.specs.Joining.{waits_in, with_caller}
use Rattle.dp_queue.specs.Queues.{QueueOf, QueuesOf}
use Rattle.dp_queue.proofs.WaitingLemmas.{lines, waits_in-joined, waits_in-same}
use Rattle.dp_plan.specs.Plan.{PlanOf}
use Rattle.dp_vars.specs.Stores.{StoreFrame, innermost}
use Rattle.dp_app.specs.Lawful.{KeepsQueues, MayGo, MayPark, waiting_after, waiting_lists, waiting_parked}
use Rattle.dp_app.specs.declared.moves.Move.{Move}
use Rattle.dp_app.specs.declared.moves.Move.TheVariants.{Next, Jump, Enter, Park, Hang}
use Rattle.dp_app.specs.declared.phase.Phase.{Phase}
use Rattle.dp_app.specs.declared.phase.Phase.TheVariants.{Ready, Digits, Pause, Queued, Talking as PhaseTalking, Dialling, Ended}
use Rattle.dp_app.specs.declared.place.Place.{Place}
use Rattle.dp_app.specs.declared.touch.Touch.{Touch}
use Rattle.dp_machine.specs.Channels.{back_by, at_place_or_back, hung_up, at_target, after_move, ready_in, runs_hang_up, without_frames}
use Rattle.dp_machine.specs.GoodWorld.{IsSoundIn, queue_in, talk_in}
use Rattle.dp_machine.specs.Targets.{if_found, parts_place, target_place}
use Rattle.dp_machine.specs.declared.channel.Channel.{Channel}
use Rattle.dp_machine.proofs.TieQueues.{Rests, SameTies, if_false, if_true, ties-kept, ties-same}
use Rattle.dp_machine.proofs.TieLemmas.{Ties}
use borrow.Author.Tests.{eq-eqb}

-- a channel that is hung up neither waits nor talks
pub hung_up-rests : (plan : PlanOf) (c : Channel) → Rests (hung_up plan c).phase
unfolding hung_up
hung_up-rests plan c = by (runs_hang_up plan c)
  where
    by : (b : Bool)
        → Rests (if b then record (ready_in (without_frames c) (codes "h")) { is_closing = true } else record (without_frames c) { phase = Ended }).phase
    by true = (refl, refl)
    by false = (refl, refl)

-- and is sound
pub hung_up-sound : (plan : PlanOf) (c : Channel) → IsSoundIn (hung_up plan c).phase (hung_up plan c)
unfolding hung_up
hung_up-sound plan c = by (runs_hang_up plan c)
  where
    result : Bool → Channel
    result b = if b then record (ready_in (without_frames c) (codes "h")) { is_closing = true } else record (without_frames c) { phase = Ended }

    by : (b : Bool) → IsSoundIn (result b).phase (result b)
    by true = tt
    by false = refl

-- a channel at the place of a target neither waits nor talks
pub at_target-rests : (plan : PlanOf) (c : Channel) (o : Option Place) → Rests (at_target plan c o).phase
at_target-rests plan c None = hung_up-rests plan c
at_target-rests plan c (Some place) = (refl, refl)

-- nor does one that goes back from a frame
back-rests : (plan : PlanOf) (c : Channel) (o : Option (StoreFrame Place)) → Rests (back_by plan c o).phase
back-rests plan c None = hung_up-rests plan c
back-rests plan c (Some frame) = (refl, refl)

at_place_or_back-rests : (plan : PlanOf) (c : Channel) (o : Option Place) → Rests (at_place_or_back plan c o).phase
at_place_or_back-rests plan c None = back-rests plan c (innermost c.store.frames)
at_place_or_back-rests plan c (Some place) = (refl, refl)

-- a channel neither waits nor talks, before and after
pub ties-rests : (number : ℕ) (before after : QueuesOf) (p r : Phase) → Ties number before after p → Rests p → Rests r → Ties number before after r
ties-rests number before after p r ties old new = ties-same number before after p r ties (old.0 ∙ sym new.0) (old.1 ∙ sym new.1)

-- the waiting lists after one more call
lines-joined : (qs : List QueueOf) (c k : ℕ) → lines (changed_at (with_caller c) k qs) ≡ changed_at (λ waiting. waiting ++ c ∷ []) k (lines qs)
lines-joined [] c k = refl
lines-joined (q ∷ qs) c zero = refl
lines-joined (q ∷ qs) c (suc k) = ap (λ (ls : List (List ℕ)). q.waiting ∷ ls) (lines-joined qs c k)

module _ (touch : Touch) (before after : QueuesOf) (keeps : KeepsQueues touch before after) where
  -- an application that leaves the waiting lists unchanged
  pub same-kept : waiting_lists after ≡ waiting_lists before → SameTies before after
  same-kept kept = record {
    waits = λ m. waits_in-same after.queues before.queues m kept;
    talking = λ agent queue m is. sym (keeps.states agent) ∙ is;
    talks = λ agent queue m is. keeps.states agent ∙ is;
  }

  -- an application that makes the channel join a queue
  pub ties-joined : (number k : ℕ) (p r : Phase) → Ties number before before p → Rests p → k < length before.queues
      → waiting_lists after ≡ changed_at (λ waiting. waiting ++ number ∷ []) k (waiting_lists before) → queue_in r ≡ Some k → talk_in r ≡ None
      → Ties number before after r
  ties-joined number k p r ties rests within joined waits silent = record {
    waits = beyond number ∙ if_true (number == number) (Some k) (waits_in before.queues number) (eq-eqb number number refl) ∙ sym waits;
    others = λ m differs. beyond m ∙ if_false (number == m) (Some k) (waits_in before.queues m) differs;
    talking = λ agent queue is. absurd (none-some (queue, agent) (sym rests.1 ∙ ties.talking agent queue (sym (keeps.states agent) ∙ is)));
    talks = λ agent queue is. absurd (none-some (queue, agent) (sym silent ∙ is));
    still_talking = λ agent queue m differs is. sym (keeps.states agent) ∙ is;
    still_talks = λ agent queue m differs is. keeps.states agent ∙ is;
  }
    where
      beyond : (m : ℕ) → waits_in after.queues m ≡ (if number == m then Some k else waits_in before.queues m)
      beyond m = waits_in-same after.queues (changed_at (with_caller number) k before.queues) m (joined ∙ sym (lines-joined before.queues number k))
          ∙ waits_in-joined before.queues number k m within (ties.waits ∙ rests.0)

  -- an application that makes the channel wait
  ties-parked : (number : ℕ) (p r : Phase) → Ties number before before p → Rests p → MayPark (length before.queues) r
      → waiting_lists after ≡ waiting_parked (waiting_lists before) number r → Ties number before after r
  ties-parked number p Ready ties rests may waits = absurd may
  ties-parked number p (Digits digits is_background) ties rests may waits =
      ties-rests number before after p (Digits digits is_background) (ties-kept number before before after p (same-kept waits) ties) rests (refl, refl)
  ties-parked number p Pause ties rests may waits =
      ties-rests number before after p Pause (ties-kept number before before after p (same-kept waits) ties) rests (refl, refl)
  ties-parked number p (Queued queue goes_on has_timer) ties rests may waits =
      ties-joined number queue p (Queued queue goes_on has_timer) ties rests may waits refl refl
  ties-parked number p (PhaseTalking queue agent goes_on) ties rests may waits = absurd may
  ties-parked number p (Dialling goes_on has_timer) ties rests may waits =
      ties-rests number before after p (Dialling goes_on has_timer) (ties-kept number before before after p (same-kept waits) ties) rests (refl, refl)
  ties-parked number p Ended ties rests may waits = absurd may

  -- the channel after a move
  pub ties-after_move : (plan : PlanOf) (number : ℕ) (c : Channel) (going : Move) (p : Phase) → Ties number before before p → Rests p
      → MayGo (length before.queues) going → waiting_lists after ≡ waiting_after (waiting_lists before) number going
      → Ties number before after (after_move plan c going).phase
  ties-after_move plan number c Next p ties rests may waits =
      ties-rests number before after p Ready (ties-kept number before before after p (same-kept waits) ties) rests (refl, refl)
  ties-after_move plan number c (Jump target) p ties rests may waits =
      ties-rests number before after p (at_target plan c (target_place plan c.place target)).phase
      (ties-kept number before before after p (same-kept waits) ties) rests (at_target-rests plan c (target_place plan c.place target))
  ties-after_move plan number c (Enter parts) p ties rests may waits =
      ties-rests number before after p (at_place_or_back plan c (if_found plan (parts_place plan c.place parts))).phase
      (ties-kept number before before after p (same-kept waits) ties) rests (at_place_or_back-rests plan c (if_found plan (parts_place plan c.place parts)))
  ties-after_move plan number c (Park phase) p ties rests may waits = ties-parked number p phase ties rests may waits
  ties-after_move plan number c Hang p ties rests may waits =
      ties-rests number before after p (hung_up plan c).phase (ties-kept number before before after p (same-kept waits) ties) rests (hung_up-rests plan c)
