-- Each row keeps the laws of rows with its touch.
use Rattle.std.specs.Prelude.{◌≡◌, ℕ, ◌<◌, Bool, true, false, List, length, codes, refl}
use Rattle.std.proofs.Common.{ap}
use Rattle.dp_conf.specs.Levels.{arguments_of}
use Rattle.dp_queue.specs.Joining.{IsWithin, after_join, would_join}
use Rattle.dp_queue.specs.Members.{add_row, remove_row}
use Rattle.dp_queue.specs.Queues.{QueuesOf}
use Rattle.dp_queue.specs.declared.join.Join.{Join}
use Rattle.dp_queue.specs.declared.join.Join.TheVariants.{Unknown, Empty, Full, Joined}
use Rattle.dp_app.specs.laws.Keeping.{cell_kept, not_parked, queues_kept, store_kept}
use Rattle.dp_app.specs.Lawful.{ParksNowhere, IsLawfulRow, KeepsQueues, KeepsUntouched, MayGo, waiting_after, waiting_lists}
use Rattle.dp_app.specs.laws.StoreKept.{set_kept}
use Rattle.dp_app.specs.Cells.{CellOf}
use Rattle.dp_app.specs.declared.moves.Move.TheVariants.{Next, Park, Hang}
use Rattle.dp_app.specs.declared.phase.Phase.{Phase}
use Rattle.dp_app.specs.declared.touch.Touch.{Touch}
use Rattle.dp_qapps.specs.Membership as membership
use Rattle.dp_qapps.specs.Pausing as pausing
use Rattle.dp_qapps.specs.Queueing as queueing
use Rattle.dp_qapps.specs.laws.QueuesKept.{add_kept, joined_kept, joins_within, lists-joined, pause_kept, remove_kept}
use Rattle.dp_qapps.specs.Reports.{interface_of, penalty_of, with_report}
use Rattle.dp_app.specs.Parts.{has_option, is_given, part}
use Rattle.dp_qapps.specs.Touches.{variables_and_members, variables_and_waiting}

false_is_true : false ≡ true → ⊥
false_is_true e = cc

-- a report keeps whatever the change of the queues keeps
reported_kept : (touch : Touch) (cell : CellOf) (queues : QueuesOf) (name status : List ℕ) → touch.variables ≡ true
    → KeepsQueues touch cell.queues queues → KeepsUntouched touch cell (with_report cell queues name status).cell
reported_kept touch cell queues name status touches kept = record {
  number = refl;
  place = refl;
  closing = refl;
  caller = λ h. refl;
  globals = λ h. refl;
  store = set_kept touch cell.store cell.store name status touches (store_kept touch cell.store);
  queues = kept;
}

-- a row that reports a change of the members keeps the laws
members_lawful : (queues : List ℕ → CellOf → QueuesOf) (name : List ℕ) (status : List ℕ → CellOf → List ℕ)
    → ((arguments : List ℕ) (cell : CellOf) → KeepsQueues variables_and_members cell.queues (queues arguments cell))
    → IsLawfulRow variables_and_members (λ arguments cell. with_report cell (queues arguments cell) name (status arguments cell))
members_lawful queues name status kept = record {
  keeps = λ arguments cell. reported_kept variables_and_members cell (queues arguments cell) name (status arguments cell) refl (kept arguments cell);
  parks = λ arguments cell. tt;
  waits = λ arguments cell. (kept arguments cell).waiting refl;
  closes = λ arguments cell closing. tt;
  hangs = λ arguments cell phase closing parks. not_parked Next phase tt parks;
}

-- the row of `AddQueueMember`
pub add_member_lawful : IsLawfulRow variables_and_members membership.add_member_row
unfolding membership.add_member_row
add_member_lawful = members_lawful
    (λ arguments cell. (add_row cell.queues (part 0 (arguments_of arguments)) (interface_of cell.number (part 1 (arguments_of arguments))) (penalty_of (part 2 (arguments_of arguments)))).0)
    (codes "AQMSTATUS")
    (λ arguments cell. membership.added_status (add_row cell.queues (part 0 (arguments_of arguments)) (interface_of cell.number (part 1 (arguments_of arguments))) (penalty_of (part 2 (arguments_of arguments)))).1)
    (λ arguments cell. add_kept cell.queues (part 0 (arguments_of arguments)) (interface_of cell.number (part 1 (arguments_of arguments))) (penalty_of (part 2 (arguments_of arguments))))

-- the row of `RemoveQueueMember`
pub remove_member_lawful : IsLawfulRow variables_and_members membership.remove_member_row
unfolding membership.remove_member_row
remove_member_lawful = members_lawful
    (λ arguments cell. (remove_row cell.queues (part 0 (arguments_of arguments)) (interface_of cell.number (part 1 (arguments_of arguments)))).0)
    (codes "RQMSTATUS")
    (λ arguments cell. membership.removed_status (remove_row cell.queues (part 0 (arguments_of arguments)) (interface_of cell.number (part 1 (arguments_of arguments)))).1)
    (λ arguments cell. remove_kept cell.queues (part 0 (arguments_of arguments)) (interface_of cell.number (part 1 (arguments_of arguments))))

-- a row that pauses a member or ends its pause
pub pausing_lawful : (is_paused : Bool) → IsLawfulRow variables_and_members (pausing.pausing_row is_paused)
unfolding pausing.pausing_row
pausing_lawful is_paused = members_lawful
    (λ arguments cell. (pausing.after_pausing cell.queues (pausing.queue_asked (part 0 (arguments_of arguments))) (part 1 (arguments_of arguments)) is_paused).0)
    (pausing.pause_variable is_paused)
    (λ arguments cell. pausing.pause_status is_paused (pausing.after_pausing cell.queues (pausing.queue_asked (part 0 (arguments_of arguments))) (part 1 (arguments_of arguments)) is_paused).1)
    (λ arguments cell. pause_kept cell.queues (pausing.queue_asked (part 0 (arguments_of arguments))) (part 1 (arguments_of arguments)) is_paused)

-- the row of `PauseQueueMember`
pub pause_member_lawful : IsLawfulRow variables_and_members pausing.pause_member_row
pause_member_lawful = pausing_lawful true

-- the row of `UnpauseQueueMember`
pub unpause_member_lawful : IsLawfulRow variables_and_members pausing.unpause_member_row
unpause_member_lawful = pausing_lawful false

-- a call that asks to join, given the reply
module _ (cell : CellOf) (goes_on has_timer : Bool) where
  -- a call that does not wait changes only the variables
  refused_kept : (status : List ℕ) → KeepsUntouched variables_and_waiting cell (queueing.stays_out cell status).cell
  refused_kept status = reported_kept variables_and_waiting cell cell.queues (codes "QUEUESTATUS") status refl (queues_kept variables_and_waiting cell.queues)

  -- a call that waits changes only the waiting lists
  queued_kept : (number : ℕ) (b : Bool)
      → KeepsUntouched variables_and_waiting cell (queueing.wait_in_queue b cell (after_join cell.queues cell.number (Joined number)) number goes_on has_timer).cell
  queued_kept number true = cell_kept variables_and_waiting cell
  queued_kept number false = record {
    number = refl;
    place = refl;
    closing = refl;
    caller = λ h. refl;
    globals = λ h. refl;
    store = store_kept variables_and_waiting cell.store;
    queues = joined_kept cell.queues cell.number number;
  }

  asked_kept : (j : Join) → KeepsUntouched variables_and_waiting cell (queueing.join_outcome cell goes_on has_timer (after_join cell.queues cell.number j) j).cell
  asked_kept Unknown = refused_kept (codes "UNKNOWN")
  asked_kept Empty = refused_kept (codes "JOINEMPTY")
  asked_kept Full = refused_kept (codes "FULL")
  asked_kept (Joined number) = queued_kept number cell.is_closing

  -- the queue in which it waits exists
  queued_parks : (count number : ℕ) (b : Bool) (queues : QueuesOf) → number < count
      → MayGo count (queueing.wait_in_queue b cell queues number goes_on has_timer).next
  queued_parks count number true queues within = tt
  queued_parks count number false queues within = within

  asked_parks : (count : ℕ) (queues : QueuesOf) (j : Join) → IsWithin count j → MayGo count (queueing.join_outcome cell goes_on has_timer queues j).next
  asked_parks count queues Unknown within = tt
  asked_parks count queues Empty within = tt
  asked_parks count queues Full within = tt
  asked_parks count queues (Joined number) within = queued_parks count number cell.is_closing queues within

  -- it is the last in the waiting list of that queue
  queued_waits : (number : ℕ) (b : Bool)
      → waiting_lists (queueing.wait_in_queue b cell (after_join cell.queues cell.number (Joined number)) number goes_on has_timer).cell.queues
      ≡ waiting_after (waiting_lists cell.queues) cell.number (queueing.wait_in_queue b cell (after_join cell.queues cell.number (Joined number)) number goes_on has_timer).next
  queued_waits number true = refl
  queued_waits number false = lists-joined cell.number number cell.queues.queues

  asked_waits : (j : Join)
      → waiting_lists (queueing.join_outcome cell goes_on has_timer (after_join cell.queues cell.number j) j).cell.queues
      ≡ waiting_after (waiting_lists cell.queues) cell.number (queueing.join_outcome cell goes_on has_timer (after_join cell.queues cell.number j) j).next
  asked_waits Unknown = refl
  asked_waits Empty = refl
  asked_waits Full = refl
  asked_waits (Joined number) = queued_waits number cell.is_closing

  -- a call that is closing does not wait
  queued_closes : (number : ℕ) (b : Bool) (queues : QueuesOf) → b ≡ true → ParksNowhere (queueing.wait_in_queue b cell queues number goes_on has_timer).next
  queued_closes number true queues closing = tt
  queued_closes number false queues closing = absurd (false_is_true closing)

  asked_closes : (queues : QueuesOf) (j : Join) → cell.is_closing ≡ true → ParksNowhere (queueing.join_outcome cell goes_on has_timer queues j).next
  asked_closes queues Unknown closing = tt
  asked_closes queues Empty closing = tt
  asked_closes queues Full closing = tt
  asked_closes queues (Joined number) closing = queued_closes number cell.is_closing queues closing

  -- if it would wait without the mark, the call ends and nothing changes
  asked_hangs : (queues : QueuesOf) (j : Join) (phase : Phase) → cell.is_closing ≡ true
      → (queueing.join_outcome (record cell { is_closing = false }) goes_on has_timer queues j).next ≡ Park phase
      → queueing.join_outcome cell goes_on has_timer queues j ≡ record { cell = cell; next = Hang }
  asked_hangs queues Unknown phase closing parks = not_parked Next phase tt parks
  asked_hangs queues Empty phase closing parks = not_parked Next phase tt parks
  asked_hangs queues Full phase closing parks = not_parked Next phase tt parks
  asked_hangs queues (Joined number) phase closing parks = ap (λ b. queueing.wait_in_queue b cell queues number goes_on has_timer) closing

-- what the options of `Queue` ask for, given its parts
abbrev goes_on_of : List ℕ → Bool
goes_on_of arguments = has_option 99 (part 1 (arguments_of arguments))

abbrev has_timer_of : List ℕ → Bool
has_timer_of arguments = is_given (part 4 (arguments_of arguments))

-- the reply to a call that asks to join
abbrev join_told : List ℕ → CellOf → Join
join_told arguments cell = would_join cell.queues.queues (part 0 (arguments_of arguments))

-- the row of `Queue`
pub queue_lawful : IsLawfulRow variables_and_waiting queueing.queue_row
unfolding queueing.queue_row
queue_lawful = record {
  keeps = λ arguments cell. asked_kept cell (goes_on_of arguments) (has_timer_of arguments) (join_told arguments cell);
  parks = λ arguments cell. asked_parks cell (goes_on_of arguments) (has_timer_of arguments) (length cell.queues.queues)
      (after_join cell.queues cell.number (join_told arguments cell)) (join_told arguments cell) (joins_within cell.queues.queues (part 0 (arguments_of arguments)));
  waits = λ arguments cell. asked_waits cell (goes_on_of arguments) (has_timer_of arguments) (join_told arguments cell);
  closes = λ arguments cell closing. asked_closes cell (goes_on_of arguments) (has_timer_of arguments)
      (after_join cell.queues cell.number (join_told arguments cell)) (join_told arguments cell) closing;
  hangs = λ arguments cell phase closing parks. asked_hangs cell (goes_on_of arguments) (has_timer_of arguments)
      (after_join cell.queues cell.number (join_told arguments cell)) (join_told arguments cell) phase closing parks;
}
