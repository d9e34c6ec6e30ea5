-- Unseen callers, computed from the definitions themselves.
use Rattle.std.proofs.Common.{◌≡◌, ℕ, Bool, true, false, ◌||◌, List, [], ◌∷◌, Some, None, take, drop, length, slice_get, if◌then◌else◌, refl, sym, arith, ap, subst, ◌∙◌}
use Rattle.std.specs.FinMap.{empty}
use Rattle.std.specs.Option.{option_map, unwrap_or}
use Rattle.std.specs.Prelude.{codes}
use Rattle.std.specs.Str.{byte}
use Rattle.dp_lookup.specs.FoundEntry.{found_entry, goes_on_more}
use Rattle.dp_lookup.specs.SearchOrder.{visit}
use Rattle.dp_plan.specs.Plan.{PlanOf}
use Rattle.dp_queue.specs.Queues.{QueuesOf}
use Rattle.dp_queue.specs.declared.settings.EmptyRule.TheVariants.{Yes, No}
use Rattle.dp_queue.specs.declared.settings.Strategy.TheVariants.{RingAll}
use Rattle.dp_vars.specs.Stores.{nothing}
use Rattle.dp_app.specs.Rows.{Meanings}
use Rattle.dp_app.specs.Tables.{no_meanings}
use Rattle.dp_app.specs.declared.phase.Phase.{Phase}
use Rattle.dp_app.specs.declared.phase.Phase.TheVariants.{Digits, Queued, Ended as over}
use Rattle.dp_machine.specs.Channels.{hung_up}
use Rattle.dp_machine.specs.Events.{dial_in, digit_row, hang_up_row, is_digit, is_over, new_channel, own_event, refuse, start_call, timeout_row}
use Rattle.dp_machine.specs.Found.{could_go_on, is_found}
use Rattle.dp_machine.specs.Isolation.{IsPrivate, IsUnseen, replies_without, without}
use Rattle.dp_machine.specs.Replay.{replies_to, world_after, final_world}
use Rattle.dp_machine.specs.Targets.{place_of}
use Rattle.dp_machine.specs.World.{World, channel_at, world_of}
use Rattle.dp_machine.specs.declared.channel.Channel.{Channel}
use Rattle.dp_machine.specs.declared.event.Event.{Event}
use Rattle.dp_machine.specs.declared.event.Event.TheVariants.{Start, Digit, Timeout, Hangup}
use Rattle.dp_machine.specs.declared.refusal.Refusal.TheVariants.{BadDigit, NotWaiting}
use Rattle.dp_machine.specs.declared.reply.Reply.TheVariants.{Started, Done, Refused}
use Rattle.dp_machine.specs.declared.shared_state.SharedState.{SharedState}
use Rattle.dp_machine.proofs.IsolationLemmas.{none-of, unseen-more, unseen-none}

-- what is dialled in a menu is private, in every world
pub menu-private : (meanings : Meanings) (w : World) (number : ℕ) (c : Channel) (digits : List ℕ) (is_background : Bool) (digit : ℕ)
    → channel_at w.channels number ≡ Some c → c.phase ≡ Digits digits is_background → IsPrivate meanings w (Digit number digit)
unfolding digit_row
menu-private meanings w number c digits is_background digit here waits = record {
  plan = ap (λ o. (own_event w number (digit_row digit) o).0.plan) here;
  shared = ap (λ o. (own_event w number (digit_row digit) o).0.shared) here ∙ subst Keeps (sym waits) (by (is_digit digit));
}
  where
    Keeps : Phase → Type 0
    Keeps phase = (if is_over phase || is_digit digit then dial_in phase digit w.plan w.shared number c else refuse BadDigit w.shared c).shared ≡ w.shared

    by : (b : Bool) → (if b then dial_in (Digits digits is_background) digit w.plan w.shared number c else refuse BadDigit w.shared c).shared ≡ w.shared
    by true = refl
    by false = refl

-- an empty context `menu`
abbrev plan : PlanOf
plan = record { globals = []; contexts = (record { name = codes "menu"; entries = []; includes = [] }) ∷ [] }

abbrev no_queues : QueuesOf
no_queues = record { queues = []; agents = []; finished = 0 }

-- a channel at an extension of the menu, in a phase
abbrev channel : List ℕ → Phase → Channel
channel exten phase = record { place = place_of (codes "menu") exten 1; phase = phase; is_closing = false; caller = codes "7"; store = nothing }

abbrev world : List Channel → World
world channels = world_of plan channels (record { globals = empty; queues = no_queues })

-- two callers in the menu
abbrev both : World
both = world (channel (codes "s") (Digits [] false) ∷ channel (codes "s") (Digits [] false) ∷ [])

-- the first one dials and hangs up, and a third one comes in; the second one dials, and times out when it no longer waits
abbrev events : List Event
events = Digit 2 (byte "5") ∷ Digit 1 (byte "6") ∷ Timeout 2 ∷ Hangup 1 ∷ Start (codes "menu") (codes "s") (codes "8") ∷ []

abbrev others : List Event
others = Digit 1 (byte "6") ∷ Hangup 1 ∷ Start (codes "menu") (codes "s") (codes "8") ∷ []

without-second : without 2 events ≡ others
without-second = refl

replies-all : replies_to no_meanings both events ≡ Done ∷ Done ∷ Refused NotWaiting ∷ Done ∷ Started 3 ∷ []
unfolding digit_row timeout_row hang_up_row hung_up start_call could_go_on goes_on_more is_found found_entry visit
replies-all = refl

replies-others : replies_to no_meanings both others ≡ Done ∷ Done ∷ Started 3 ∷ []
unfolding digit_row timeout_row hang_up_row hung_up start_call could_go_on goes_on_more is_found found_entry visit
replies-others = refl

replies-without_second : replies_without 2 events (Done ∷ Done ∷ Refused NotWaiting ∷ Done ∷ Started 3 ∷ []) ≡ Done ∷ Done ∷ Started 3 ∷ []
replies-without_second = refl

-- without its events the second one stays in the menu
world-others : world_after no_meanings both others ≡
    world (channel (codes "6") over ∷ channel (codes "s") (Digits [] false) ∷ new_channel (codes "menu") (codes "s") (codes "8") ∷ [])
unfolding digit_row timeout_row hang_up_row hung_up start_call could_go_on goes_on_more is_found found_entry visit
world-others = refl

-- the world that the event at a place in the list meets
abbrev world_met : ℕ → World
world_met number = world_after no_meanings both (take number events)

second-dials : IsPrivate no_meanings (world_met 0) (Digit 2 (byte "5"))
unfolding digit_row could_go_on goes_on_more visit
second-dials = record { plan = refl; shared = refl }

second-is_late : IsPrivate no_meanings (world_met 2) (Timeout 2)
unfolding digit_row timeout_row could_go_on goes_on_more visit
second-is_late = record { plan = refl; shared = refl }

second-unseen : IsUnseen no_meanings 2 both events
second-unseen =
    unseen-more no_meanings 2 (world_met 0) (Digit 2 (byte "5")) (drop 1 events) (λ is. second-dials)
    (unseen-more no_meanings 2 (world_met 1) (Digit 1 (byte "6")) (drop 2 events) none-of
    (unseen-more no_meanings 2 (world_met 2) (Timeout 2) (drop 3 events) (λ is. second-is_late)
    (unseen-more no_meanings 2 (world_met 3) (Hangup 1) (drop 4 events) none-of
    (unseen-more no_meanings 2 (world_met 4) (Start (codes "menu") (codes "s") (codes "8")) [] none-of
    (unseen-none no_meanings 2 (world_met 5))))))

-- a queue in which these channels wait
abbrev one_queue : List ℕ → QueuesOf
one_queue waiting = record {
  queues = (record {
    name = codes "q";
    settings = record { strategy = RingAll; maxlen = 0; joinempty = Yes; leavewhenempty = No; context = [] };
    members = [];
    waiting = waiting;
    last = None;
  }) ∷ [];
  agents = [];
  finished = 0;
}

-- a hang-up in a queue is seen: nobody waits there any more
abbrev queued_world : World
queued_world = world_of plan (channel (codes "s") (Queued 0 true false) ∷ []) (record { globals = empty; queues = one_queue (1 ∷ []) })

hang_up-frees : (final_world no_meanings queued_world (Hangup 1)).shared ≡ record { globals = empty; queues = one_queue [] }
unfolding hang_up_row hung_up is_found found_entry visit
hang_up-frees = refl

-- the number of calls that wait in the first queue
abbrev waiting_first : SharedState → ℕ
waiting_first shared = unwrap_or (option_map (λ q. length q.waiting) (slice_get shared.queues.queues 0)) 0

hang_up-seen : IsPrivate no_meanings queued_world (Hangup 1) → ⊥
hang_up-seen private =
    let same : 0 ≡ 1 = ap waiting_first (sym hang_up-frees ∙ private.shared) in
    omega (arith, same)
