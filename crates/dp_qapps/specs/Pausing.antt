-- The rows of `PauseQueueMember` and `UnpauseQueueMember`.
use Rattle.std.specs.Prelude.{ℕ, Bool, true, false, List, [], ◌∷◌, Option, Some, None, codes, if◌then◌else◌}
use Rattle.dp_conf.specs.Levels.{arguments_of}
use Rattle.dp_queue.specs.Members.{pause_row}
use Rattle.dp_queue.specs.Queues.{QueuesOf}
use Rattle.dp_app.specs.Rows.{Outcome, Row}
use Rattle.dp_app.specs.Cells.{CellOf}
use Rattle.dp_qapps.specs.Reports.{with_report}
use Rattle.dp_app.specs.Parts.{part}

-- the queue that a part names; an empty part means all queues
abbrev pub queue_asked : List ℕ → Option (List ℕ)
queue_asked [] = None
queue_asked (b ∷ bs) = Some (b ∷ bs)

-- the queues after a member was paused or its pause ended, and whether there is such a member; an empty interface names none
abbrev pub after_pausing : QueuesOf → Option (List ℕ) → List ℕ → Bool → QueuesOf × Bool
after_pausing q queue [] is_paused = (q, false)
after_pausing q queue (b ∷ bs) is_paused = pause_row q queue (b ∷ bs) is_paused

-- the name of the status variable
abbrev pub pause_variable : Bool → List ℕ
pause_variable is_paused = if is_paused then codes "PQMSTATUS" else codes "UPQMSTATUS"

-- the status if there is such a member
abbrev pub pause_done : Bool → List ℕ
pause_done is_paused = if is_paused then codes "PAUSED" else codes "UNPAUSED"

-- the status of a pause or its end
abbrev pub pause_status : Bool → Bool → List ℕ
pause_status is_paused is_there = if is_there then pause_done is_paused else codes "NOTFOUND"

-- the report of a pause or its end
abbrev pub reported_paused : Bool → CellOf → QueuesOf × Bool → Outcome
reported_paused is_paused cell answer = with_report cell answer.0 (pause_variable is_paused) (pause_status is_paused answer.1)

-- the row, given the parts of the arguments: queue and interface
abbrev pub pause_by : Bool → List (List ℕ) → CellOf → Outcome
pause_by is_paused parts cell =
    reported_paused is_paused cell (after_pausing cell.queues (queue_asked (part 0 parts)) (part 1 parts) is_paused)

-- the row of an application that pauses a member or ends its pause
unfoldable pub pausing_row : Bool → Row
pausing_row is_paused arguments cell = pause_by is_paused (arguments_of arguments) cell

-- the row of `PauseQueueMember`
abbrev pub pause_member_row : Row
pause_member_row = pausing_row true

-- the row of `UnpauseQueueMember`
abbrev pub unpause_member_row : Row
unpause_member_row = pausing_row false
