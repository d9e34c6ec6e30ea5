-- How one channel changes: where it goes, and how it ends.
use Rattle.std.specs.Prelude.{ℕ, ◌+◌, Bool, true, false, not, ◌&&◌, List, [], ◌∷◌, Option, Some, None, codes, if◌then◌else◌}
use Rattle.dp_plan.specs.Plan.{PlanOf}
use Rattle.dp_vars.specs.Stores.{StoreFrame, innermost, set, without_frame}
use Rattle.dp_app.specs.declared.moves.Move.{Move}
use Rattle.dp_app.specs.declared.moves.Move.TheVariants.{Next, Jump, Enter, Park, Hang}
use Rattle.dp_app.specs.declared.phase.Phase.{Phase}
use Rattle.dp_app.specs.declared.phase.Phase.TheVariants.{Ready, Digits, Pause, Queued, Talking, Dialling, Ended}
use Rattle.dp_app.specs.declared.place.Place.{Place}
use Rattle.dp_machine.specs.Codes.{status_name}
use Rattle.dp_machine.specs.Found.{is_found}
use Rattle.dp_machine.specs.Targets.{if_found, parts_place, place_of, target_place}
use Rattle.dp_machine.specs.declared.channel.Channel.{Channel}
use Rattle.dp_machine.specs.declared.dial_status.DialStatus.{DialStatus}
use Rattle.dp_machine.specs.declared.dial_status.DialStatus.TheVariants.{Answer, Busy, NoAnswer, Congestion, ChanUnavail, DontCall, Torture, InvalidArgs}

-- the channel, ready at a place
abbrev pub ready_at : Channel → Place → Channel
ready_at c place = record c { place = place; phase = Ready }

-- the channel, ready at priority 1 of an extension of its context
abbrev pub ready_in : Channel → List ℕ → Channel
ready_in c exten = ready_at c (place_of c.place.context exten 1)

-- the channel, ready at the next priority
abbrev pub going_on : Channel → Channel
going_on c = ready_at c (place_of c.place.context c.place.exten (c.place.priority + 1))

-- the channel with a name set: the local of the innermost frame that has the name, else the channel's variable
abbrev pub with_value : Channel → List ℕ → List ℕ → Channel
with_value c name value = record c { store = set c.store name value }

-- the channel without its frames
abbrev pub without_frames : Channel → Channel
without_frames c = record c { store = record c.store { frames = [] } }

-- whether a hang-up continues at the extension `h`: only once, and only if it is found in the channel's context
abbrev pub runs_hang_up : PlanOf → Channel → Bool
runs_hang_up plan c = not c.is_closing && is_found plan c.place.context (codes "h") 1

-- the channel after a hang-up: it loses its frames, and runs the extension `h` of its context or is over
unfoldable pub hung_up : PlanOf → Channel → Channel
hung_up plan c =
    if runs_hang_up plan c then record (ready_in (without_frames c) (codes "h")) { is_closing = true }
    else record (without_frames c) { phase = Ended }

-- the channel at the place of a target; without a place it is hung up
abbrev pub at_target : PlanOf → Channel → Option Place → Channel
at_target plan c None = hung_up plan c
at_target plan c (Some place) = ready_at c place

-- the channel back at the place to which its innermost frame returns, without that frame; without a frame it is hung up
abbrev pub back_by : PlanOf → Channel → Option (StoreFrame Place) → Channel
back_by plan c None = hung_up plan c
back_by plan c (Some frame) = ready_at (record c { store = without_frame c.store }) frame.back

-- the channel at a place, or without a place back from its innermost frame
abbrev pub at_place_or_back : PlanOf → Channel → Option Place → Channel
at_place_or_back plan c None = back_by plan c (innermost c.store.frames)
at_place_or_back plan c (Some place) = ready_at c place

-- the channel after a move
abbrev pub after_move : PlanOf → Channel → Move → Channel
after_move plan c Next = going_on c
after_move plan c (Jump target) = at_target plan c (target_place plan c.place target)
after_move plan c (Enter parts) = at_place_or_back plan c (if_found plan (parts_place plan c.place parts))
after_move plan c (Park phase) = record c { phase = phase }
after_move plan c Hang = hung_up plan c

-- the channel after its application; a name that the table lacks hangs it up
abbrev pub after_application : PlanOf → Channel → Option Move → Channel
after_application plan c None = hung_up plan c
after_application plan c (Some move) = after_move plan c move

-- whether the extension of a place does not exist, but `i` is found in its context
abbrev pub is_invalid : PlanOf → Place → Bool
is_invalid plan place = not (is_found plan place.context place.exten 1) && is_found plan place.context (codes "i") 1

-- the channel at the extension `i`, where it reads what was dialled
abbrev pub invalid : Channel → Channel
invalid c = ready_in (with_value c (codes "INVALID_EXTEN") c.place.exten) (codes "i")

-- the channel after one more digit: it waits for more if the digits may continue, else it goes where they lead
abbrev pub after_digit : Bool → Channel → List ℕ → Bool → Channel
after_digit true c digits is_background = record c { phase = Digits digits is_background }
after_digit false c digits is_background = ready_in c digits

-- the channel that waited for digits in `WaitExten` without any: it goes on, or to the extension `t`, or is hung up
abbrev pub after_wait : PlanOf → Channel → Channel
after_wait plan c =
    if is_found plan c.place.context c.place.exten (c.place.priority + 1) then going_on c
    else if is_found plan c.place.context (codes "t") 1 then ready_in c (codes "t")
    else hung_up plan c

-- the channel that waited for digits of which none came in time, given whether `Background` asked for them
abbrev pub without_digits : PlanOf → Channel → Bool → Channel
without_digits plan c true = going_on c
without_digits plan c false = after_wait plan c

-- the channel that waited for digits, of which these came in time
abbrev pub timed_out : PlanOf → Channel → List ℕ → Bool → Channel
timed_out plan c [] is_background = without_digits plan c is_background
timed_out plan c (b ∷ bs) is_background = ready_in c (b ∷ bs)

-- the channel that leaves its queue and reads why
abbrev pub left_queue : Channel → List ℕ → Channel
left_queue c status = going_on (with_value c (codes "QUEUESTATUS") status)

-- whether a channel goes on when its agent is done
abbrev pub goes_on_after : Phase → Bool
goes_on_after Ready = false
goes_on_after (Digits text is_background) = false
goes_on_after Pause = false
goes_on_after (Queued queue goes_on has_timer) = goes_on
goes_on_after (Talking queue agent goes_on) = goes_on
goes_on_after (Dialling goes_on has_timer) = false
goes_on_after Ended = false

-- the channel after its talk, given whether it goes on
abbrev pub after_talk : PlanOf → Channel → Bool → Channel
after_talk plan c true = left_queue c (codes "CONTINUE")
after_talk plan c false = hung_up plan c

-- the channel that reads the result of its call to devices
abbrev pub with_dial_status : Channel → List ℕ → Channel
with_dial_status c status = with_value c (codes "DIALSTATUS") status

-- the channel after its call to devices has timed out
abbrev pub after_no_answer : Channel → Channel
after_no_answer c = going_on (with_dial_status c (codes "NOANSWER"))

-- the channel after a hang-up during its call to devices
abbrev pub after_cancel : PlanOf → Channel → Channel
after_cancel plan c = hung_up plan (with_dial_status c (codes "CANCEL"))

-- whether a channel is hung up together with the far side that answered: only if it does not go on
abbrev pub ends_call : DialStatus → Bool → Bool
ends_call Answer goes_on = not goes_on
ends_call Busy goes_on = false
ends_call NoAnswer goes_on = false
ends_call Congestion goes_on = false
ends_call ChanUnavail goes_on = false
ends_call DontCall goes_on = false
ends_call Torture goes_on = false
ends_call InvalidArgs goes_on = false

-- the channel after its call to devices
abbrev pub after_dialling : PlanOf → Channel → DialStatus → Bool → Channel
after_dialling plan c status goes_on =
    if ends_call status goes_on then hung_up plan (with_dial_status c (status_name status))
    else going_on (with_dial_status c (status_name status))

-- how an event of an agent changes a channel
pub data ChannelChange : Type 0 where
  -- it stays as it is
  Stays : ChannelChange
  -- it talks with the agent with a number, in the queue with a number
  Talks : ℕ → ℕ → ChannelChange
  -- its talk ends
  TalkEnds : ChannelChange

-- the channel after such a change
abbrev pub after_change : PlanOf → ChannelChange → Channel → Channel
after_change plan Stays c = c
after_change plan (Talks queue agent) c = record c { phase = Talking queue agent (goes_on_after c.phase) }
after_change plan TalkEnds c = after_talk plan c (goes_on_after c.phase)
