-- An event that is no reload leaves the dialplan in force as it is.
use Rattle.std.proofs.Common.{◌≡◌, ℕ, Bool, true, false, ◌||◌, List, [], ◌∷◌, Option, Some, None, refl, sym, ap, ◌∙◌}
use Rattle.std.specs.List.{list_any}
use Rattle.dp_plan.specs.Plan.{PlanOf}
use Rattle.dp_app.specs.Rows.{Meanings}
use Rattle.dp_machine.specs.Events.{Own, agent_done, agent_event, assign_row, dial_result_row, digit_row, event_row, hang_up_row, own_event, poll_row, redirect_row, serve_answer, serve_decline, serve_offer, step_row, timeout_row}
use Rattle.dp_machine.specs.Reloading.{is_reload}
use Rattle.dp_machine.specs.Replay.{final_world, world_after}
use Rattle.dp_machine.specs.World.{World, channel_at}
use Rattle.dp_machine.specs.declared.channel.Channel.{Channel}
use Rattle.dp_machine.specs.declared.event.Event.{Event}
use Rattle.dp_machine.specs.declared.event.Event.TheVariants.{Start, Step, Digit, Timeout, Poll, Hangup, DialResult, Offer, Answer, Decline, AgentDone, Reload, Assign, Redirect}
use Rattle.dp_machine.specs.declared.shared_state.SharedState.{SharedState}
use Rattle.dp_machine.proofs.IsolationLemmas.{none-of}

-- an event of a channel does
plan-own : (w : World) (number : ℕ) (row : PlanOf → SharedState → ℕ → Channel → Own) (o : Option Channel) → (own_event w number row o).0.plan ≡ w.plan
plan-own w number row None = refl
plan-own w number row (Some c) = refl

-- each event does that is no reload
pub plan_stays : (meanings : Meanings) (w : World) (event : Event) → is_reload event ≡ false → (final_world meanings w event).plan ≡ w.plan
plan_stays meanings w (Start context exten caller) other = refl
plan_stays meanings w (Step number) other = plan-own w number (step_row meanings) (channel_at w.channels number)
plan_stays meanings w (Digit number digit) other = plan-own w number (digit_row digit) (channel_at w.channels number)
plan_stays meanings w (Timeout number) other = plan-own w number timeout_row (channel_at w.channels number)
plan_stays meanings w (Poll number) other = plan-own w number poll_row (channel_at w.channels number)
plan_stays meanings w (Hangup number) other = plan-own w number hang_up_row (channel_at w.channels number)
plan_stays meanings w (DialResult number status) other = plan-own w number (dial_result_row status) (channel_at w.channels number)
plan_stays meanings w (Offer queue) other = refl
plan_stays meanings w (Answer agent) other = refl
plan_stays meanings w (Decline agent) other = refl
plan_stays meanings w (AgentDone agent) other = refl
plan_stays meanings w (Reload text) other = none-of (sym other)
plan_stays meanings w (Assign None name value) other = refl
plan_stays meanings w (Assign (Some number) name value) other = plan-own w number (assign_row meanings.functions name value) (channel_at w.channels number)
plan_stays meanings w (Redirect number place) other = plan-own w number (redirect_row place) (channel_at w.channels number)

-- if neither of two tests holds, the first does not
pub first-fails : (a b : Bool) → (a || b) ≡ false → a ≡ false
first-fails true b neither = none-of (sym neither)
first-fails false b neither = refl

-- nor does the second
pub second-fails : (a b : Bool) → (a || b) ≡ false → b ≡ false
second-fails true b neither = none-of (sym neither)
second-fails false b neither = neither

-- and so does a list of such events
pub plan_stays_after : (meanings : Meanings) (w : World) (events : List Event) → list_any is_reload events ≡ false
    → (world_after meanings w events).plan ≡ w.plan
plan_stays_after meanings w [] none = refl
plan_stays_after meanings w (event ∷ events) none =
    plan_stays_after meanings (final_world meanings w event) events (second-fails (is_reload event) (list_any is_reload events) none)
    ∙ plan_stays meanings w event (first-fails (is_reload event) (list_any is_reload events) none)
