-- What a seat gains when it attends a channel.
use Rattle.std.specs.Prelude.{◌≡◌, ◌≢◌, ℕ, ◌-◌, Bool, true, false, List, [], ◌∷◌, ◌++◌, length, take, drop, Option, Some, None, MatchOption, All}
use Rattle.dp_app.specs.Rows.{Meanings}
use Rattle.dp_machine.specs.World.{World}
use Rattle.dp_machine.specs.declared.event.Event.TheVariants.{Step as step}
use Rattle.dp_machine.specs.declared.refusal.Refusal.TheVariants.{NoChannel, Ended as is_over}
use Rattle.dp_machine.specs.declared.reply.Reply.{Reply}
use Rattle.dp_machine.specs.declared.reply.Reply.TheVariants.{Refused as refused}
use Rattle.dp_board.specs.Log.{Log, Replays, has_ended}
use Rattle.dp_board.specs.Sittings.{SeatSitting, with_call}
use Rattle.dp_board.specs.declared.attend.AttendedWhy.{AttendedWhy}
use Rattle.dp_board.specs.declared.attend.AttendedWhy.TheVariants.{Ended, TurnsSpent, Refused}
use Rattle.dp_board.specs.declared.entry.Entry.{Entry}
use Rattle.dp_board.specs.declared.seat_call.SeatCall.{SeatCall}

-- a call that gave the channel its next step
abbrev pub IsStepOf : ℕ → SeatCall → Type 0
IsStepOf channel told = told.event ≡ step channel

-- the calls that a seat was told of since then
abbrev pub calls_since : SeatSitting → SeatSitting → List SeatCall
calls_since old new = drop (length old.told) new.told

-- the seat was told of some more calls, and all of them are steps of the channel
pub record AddsSteps (channel : ℕ) (old new : SeatSitting) : Type 0 where
  pub number : new.number ≡ old.number
  pub told : new.told ≡ old.told ++ calls_since old new
  pub steps : All (IsStepOf channel) (calls_since old new)

-- a seat that was told of one more step of the channel
abbrev pub with_step : SeatSitting → ℕ → ℕ → Reply → SeatSitting
with_step seat channel place reply = with_call seat place (step channel) reply

-- the last call that a seat was told of
abbrev pub last_call : List SeatCall → Option SeatCall
last_call [] = None
last_call (told ∷ []) = Some told
last_call (told ∷ next ∷ rest) = last_call (next ∷ rest)

-- a log that replays from the first world and ends with this step of the channel, and whether the channel has ended in its world
pub record EndsWithStep (meanings : Meanings) (first : World) (channel : ℕ) (told : SeatCall) (ended : Bool) : Type 0 where
  pub before : List Entry
  pub seat : ℕ
  pub log : Log
  pub replays : Replays meanings first log
  pub entries : log.entries ≡ before ++ (record { seat = seat; event = step channel; reply = told.reply }) ∷ []
  pub place : told.place ≡ length before
  pub state : has_ended log channel ≡ ended

-- an attendance goes on after this call: the channel had not ended after it, and it was not refused because the channel had ended or does
-- not exist
pub record AttendanceGoesOn (meanings : Meanings) (first : World) (channel : ℕ) (told : SeatCall) : Type 0 where
  pub left : EndsWithStep meanings first channel told false
  pub not_over : told.reply ≢ refused is_over
  pub there : told.reply ≢ refused NoChannel

-- an attendance goes on after each of these calls
abbrev pub GoesOnAfter : Meanings → World → ℕ → List SeatCall → Type 0
GoesOnAfter meanings first channel given = All (AttendanceGoesOn meanings first channel) given

-- an attendance goes on after each of these calls but the last
abbrev pub GoesOnToLast : Meanings → World → ℕ → List SeatCall → Type 0
GoesOnToLast meanings first channel given = GoesOnAfter meanings first channel (take (length given - 1) given)

-- the channel had ended after the call, or the reply says so
abbrev pub IsOver : Meanings → World → ℕ → SeatCall → Type 0
IsOver meanings first channel told = told.reply ≢ refused is_over → EndsWithStep meanings first channel told true

-- whether an attendance is over after a reply, given the reply and whether the channel has ended then
abbrev pub IsEndAfter : Bool → Reply → Option AttendedWhy → Type 0
IsEndAfter ended reply None = (ended ≡ false) × (reply ≢ refused is_over) × (reply ≢ refused NoChannel)
IsEndAfter ended reply (Some Ended) = reply ≢ refused is_over → ended ≡ true
IsEndAfter ended reply (Some TurnsSpent) = ⊥
IsEndAfter ended reply (Some (Refused reason)) = (ended ≡ false) × (reason ≡ NoChannel) × (reply ≡ refused NoChannel)

-- whether an attendance is over after this call
abbrev pub IsEnd : Meanings → World → ℕ → SeatCall → Option AttendedWhy → Type 0
IsEnd meanings first channel told None = AttendanceGoesOn meanings first channel told
IsEnd meanings first channel told (Some Ended) = IsOver meanings first channel told
IsEnd meanings first channel told (Some TurnsSpent) = ⊥
IsEnd meanings first channel told (Some (Refused reason)) = (reason ≡ NoChannel) × (told.reply ≡ refused NoChannel)

-- why an attendance is over, given the calls that it made: the channel has ended after the last of them, or all turns are spent and none
-- ended it, or it was refused, as the reply to the last call says
abbrev pub IsReason : Meanings → World → ℕ → AttendedWhy → ℕ → List SeatCall → Type 0
IsReason meanings first channel Ended turns given = MatchOption (last_call given) ⊥ (IsOver meanings first channel)
IsReason meanings first channel TurnsSpent turns given = (length given ≡ turns) × GoesOnAfter meanings first channel given
IsReason meanings first channel (Refused reason) turns given =
    (reason ≡ NoChannel) × MatchOption (last_call given) ⊥ (λ told. told.reply ≡ refused NoChannel)
