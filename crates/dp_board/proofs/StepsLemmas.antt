-- What each step adds to the record of a seat.
use Rattle.std.proofs.Common.{◌≡◌, ℕ, ◌+◌, ◌-◌, Bool, List, [], ◌∷◌, ◌++◌, Option, Some, None, MatchOption, length, take, drop, refl, sym, ap, subst, ◌∙◌, arith, All}
use Rattle.std.proofs.Math.Seq.{drop-append_seam, take-append_seam}
use Rattle.std.proofs.lemmas.List.{append-nil, append_assoc, length-append}
use Rattle.std.proofs.lemmas.List.Elements.{All-push, All-nil, All-take}
use Rattle.dp_machine.specs.declared.event.Event.TheVariants.{Step as step}
use Rattle.dp_app.specs.Rows.{Meanings}
use Rattle.dp_machine.specs.World.{World}
use Rattle.dp_machine.specs.declared.refusal.Refusal.TheVariants.{NoChannel}
use Rattle.dp_machine.specs.declared.reply.Reply.{Reply}
use Rattle.dp_machine.specs.declared.reply.Reply.TheVariants.{Refused as refused}
use Rattle.dp_board.specs.Sittings.{SeatSitting, call_of}
use Rattle.dp_board.specs.declared.seat_call.SeatCall.{SeatCall}
use Rattle.dp_board.specs.Attending.{IsStepOf, AddsSteps, EndsWithStep, AttendanceGoesOn, GoesOnAfter, GoesOnToLast, calls_since, IsOver, IsEndAfter, IsEnd, IsReason, with_step, last_call}
use Rattle.dp_board.specs.declared.attend.AttendedWhy.{AttendedWhy}
use Rattle.dp_board.specs.declared.attend.AttendedWhy.TheVariants.{Ended, TurnsSpent, Refused}

-- what was added to a record comes after it
calls_since-is : (old new : SeatSitting) (calls : List SeatCall) → new.told ≡ old.told ++ calls → calls_since old new ≡ calls
calls_since-is old new calls told = ap (drop (length old.told)) told ∙ drop-append_seam old.told calls

-- a record followed by these calls, which are steps
AddsSteps-of : (channel : ℕ) (old new : SeatSitting) (calls : List SeatCall) → new.number ≡ old.number → new.told ≡ old.told ++ calls → All (IsStepOf channel) calls → AddsSteps channel old new
AddsSteps-of channel old new calls number told steps =
    let is : calls_since old new ≡ calls = calls_since-is old new calls told in
    record {
      number = number;
      told = told ∙ ap (λ l. old.told ++ l) (sym is);
      steps = subst (All (IsStepOf channel)) (sym is) steps;
    }

-- before the first step
pub AddsSteps-none : (channel : ℕ) (seat : SeatSitting) → AddsSteps channel seat seat
AddsSteps-none channel seat = AddsSteps-of channel seat seat [] refl (sym (append-nil seat.told)) (All-nil (IsStepOf channel))

-- the record after one more step
told-more : (channel : ℕ) (old seat new : SeatSitting) (place : ℕ) (reply : Reply) → AddsSteps channel old seat → new ≡ with_step seat channel place reply → new.told ≡ old.told ++ (calls_since old seat ++ (call_of place (step channel) reply) ∷ [])
told-more channel old seat new place reply before one =
    ap (λ (s : SeatSitting). s.told) one
    ∙ (ap (λ (l : List SeatCall). l ++ (call_of place (step channel) reply) ∷ []) before.told ∙ append_assoc old.told (calls_since old seat) ((call_of place (step channel) reply) ∷ []))

-- one more step
pub AddsSteps-more : (channel : ℕ) (old seat new : SeatSitting) (place : ℕ) (reply : Reply) → AddsSteps channel old seat → new ≡ with_step seat channel place reply → AddsSteps channel old new
AddsSteps-more channel old seat new place reply before one =
    AddsSteps-of channel old new (calls_since old seat ++ (call_of place (step channel) reply) ∷ [])
    (ap (λ (s : SeatSitting). s.number) one ∙ before.number)
    (told-more channel old seat new place reply before one)
    (All-push (IsStepOf channel) (calls_since old seat) (call_of place (step channel) reply) before.steps refl)

-- the number of calls in the seat's record after one step
pub count-more : (channel : ℕ) (seat new : SeatSitting) (place : ℕ) (reply : Reply) → new ≡ with_step seat channel place reply → length new.told ≡ length seat.told + 1
count-more channel seat new place reply one = ap (λ (s : SeatSitting). length s.told) one ∙ length-append seat.told ((call_of place (step channel) reply) ∷ [])

-- the last call is that of the last step
last-push : (told : List SeatCall) (one : SeatCall) → last_call (told ++ one ∷ []) ≡ Some one
last-push [] one = refl
last-push (first ∷ []) one = refl
last-push (first ∷ next ∷ rest) one = last-push (next ∷ rest) one

-- the calls after one more step
calls_since-more : (channel : ℕ) (old seat new : SeatSitting) (place : ℕ) (reply : Reply) → AddsSteps channel old seat → new ≡ with_step seat channel place reply → calls_since old new ≡ calls_since old seat ++ (call_of place (step channel) reply) ∷ []
calls_since-more channel old seat new place reply before one =
    calls_since-is old new (calls_since old seat ++ (call_of place (step channel) reply) ∷ []) (told-more channel old seat new place reply before one)

pub last-more : (channel : ℕ) (old seat new : SeatSitting) (place : ℕ) (reply : Reply) → AddsSteps channel old seat → new ≡ with_step seat channel place reply → last_call (calls_since old new) ≡ Some (call_of place (step channel) reply)
last-more channel old seat new place reply before one =
    ap last_call (calls_since-more channel old seat new place reply before one) ∙ last-push (calls_since old seat) (call_of place (step channel) reply)

-- before the first step nothing has ended it
pub GoesOnAfter-none : (meanings : Meanings) (first : World) (channel : ℕ) (seat : SeatSitting) → GoesOnAfter meanings first channel (calls_since seat seat)
GoesOnAfter-none meanings first channel seat = subst (GoesOnAfter meanings first channel) (sym (calls_since-is seat seat [] (sym (append-nil seat.told)))) (All-nil (AttendanceGoesOn meanings first channel))

-- nor after one more step, if that does not
pub GoesOnAfter-more : (meanings : Meanings) (first : World) (channel : ℕ) (old seat new : SeatSitting) (place : ℕ) (reply : Reply) → AddsSteps channel old seat → new ≡ with_step seat channel place reply → GoesOnAfter meanings first channel (calls_since old seat) → AttendanceGoesOn meanings first channel (call_of place (step channel) reply) → GoesOnAfter meanings first channel (calls_since old new)
GoesOnAfter-more meanings first channel old seat new place reply before one on goes =
    subst (GoesOnAfter meanings first channel) (sym (calls_since-more channel old seat new place reply before one)) (All-push (AttendanceGoesOn meanings first channel) (calls_since old seat) (call_of place (step channel) reply) on goes)

-- the last step may end it
pub GoesOnToLast-more : (meanings : Meanings) (first : World) (channel : ℕ) (old seat new : SeatSitting) (place : ℕ) (reply : Reply) → AddsSteps channel old seat → new ≡ with_step seat channel place reply → GoesOnAfter meanings first channel (calls_since old seat) → GoesOnToLast meanings first channel (calls_since old new)
GoesOnToLast-more meanings first channel old seat new place reply before one on =
    let more : List SeatCall = calls_since old seat ++ (call_of place (step channel) reply) ∷ [] in
    let count : length more - 1 ≡ length (calls_since old seat) = omega (arith, length-append (calls_since old seat) ((call_of place (step channel) reply) ∷ [])) in
    subst (GoesOnToLast meanings first channel) (sym (calls_since-more channel old seat new place reply before one))
    (subst (GoesOnAfter meanings first channel) (sym (ap (λ n. take n more) count ∙ take-append_seam (calls_since old seat) ((call_of place (step channel) reply) ∷ []))) on)

-- if it goes on after all steps it goes on after all but the last
pub GoesOnToLast-all : (meanings : Meanings) (first : World) (channel : ℕ) (given : List SeatCall) → GoesOnAfter meanings first channel given → GoesOnToLast meanings first channel given
GoesOnToLast-all meanings first channel given on = All-take (AttendanceGoesOn meanings first channel) (length given - 1) given on

-- whether it is over, given the reply and what the step left
pub IsEnd-left : (meanings : Meanings) (first : World) (channel : ℕ) (told : SeatCall) (ended : Bool) (end : Option AttendedWhy) → EndsWithStep meanings first channel told ended → IsEndAfter ended told.reply end → IsEnd meanings first channel told end
IsEnd-left meanings first channel told ended None left after =
    record { left = subst (EndsWithStep meanings first channel told) after.0 left; not_over = after.1; there = after.2 }
IsEnd-left meanings first channel told ended (Some Ended) left after = λ other. subst (EndsWithStep meanings first channel told) (after other) left
IsEnd-left meanings first channel told ended (Some TurnsSpent) left after = absurd after
IsEnd-left meanings first channel told ended (Some (Refused reason)) left after = (after.1, after.2)

-- the reason after the last step
pub IsReason-end : (meanings : Meanings) (first : World) (channel turns : ℕ) (why : AttendedWhy) (told : SeatCall) (given : List SeatCall) → IsEnd meanings first channel told (Some why) → last_call given ≡ Some told → IsReason meanings first channel why turns given
IsReason-end meanings first channel turns Ended told given end last = subst (λ call. MatchOption call ⊥ (IsOver meanings first channel)) (sym last) end
IsReason-end meanings first channel turns TurnsSpent told given end last = absurd end
IsReason-end meanings first channel turns (Refused reason) told given end last =
    (end.0, subst (λ call. MatchOption call ⊥ (λ (one : SeatCall). one.reply ≡ refused NoChannel)) (sym last) end.1)
