-- The rows of `AddQueueMember` and `RemoveQueueMember`.
use Rattle.std.specs.Prelude.{ℕ, List, codes}
use Rattle.dp_conf.specs.Levels.{arguments_of}
use Rattle.dp_queue.specs.Members.{add_row, remove_row}
use Rattle.dp_queue.specs.Queues.{QueuesOf}
use Rattle.dp_queue.specs.declared.change.Added.{Added}
use Rattle.dp_queue.specs.declared.change.Added.TheVariants.{NoSuchQueue, MemberAlready, Added as added}
use Rattle.dp_queue.specs.declared.change.Removed.{Removed}
use Rattle.dp_queue.specs.declared.change.Removed.TheVariants.{NoSuchQueue as no_queue, NotInQueue, NotDynamic, Removed as removed}
use Rattle.dp_app.specs.Rows.{Outcome, Row}
use Rattle.dp_app.specs.Cells.{CellOf}
use Rattle.dp_qapps.specs.Reports.{interface_of, penalty_of, with_report}
use Rattle.dp_app.specs.Parts.{part}

-- the status of an addition
abbrev pub added_status : Added → List ℕ
added_status NoSuchQueue = codes "NOSUCHQUEUE"
added_status MemberAlready = codes "MEMBERALREADY"
added_status added = codes "ADDED"

-- the report of an addition
abbrev pub reported_added : CellOf → QueuesOf × Added → Outcome
reported_added cell answer = with_report cell answer.0 (codes "AQMSTATUS") (added_status answer.1)

-- the row, given the parts of the arguments: queue, interface and penalty
abbrev pub add_by : List (List ℕ) → CellOf → Outcome
add_by parts cell =
    reported_added cell (add_row cell.queues (part 0 parts) (interface_of cell.number (part 1 parts)) (penalty_of (part 2 parts)))

-- the row of `AddQueueMember`
unfoldable pub add_member_row : Row
add_member_row arguments cell = add_by (arguments_of arguments) cell

-- the status of a removal
abbrev pub removed_status : Removed → List ℕ
removed_status no_queue = codes "NOSUCHQUEUE"
removed_status NotInQueue = codes "NOTINQUEUE"
removed_status NotDynamic = codes "NOTDYNAMIC"
removed_status removed = codes "REMOVED"

-- the report of a removal
abbrev pub reported_removed : CellOf → QueuesOf × Removed → Outcome
reported_removed cell answer = with_report cell answer.0 (codes "RQMSTATUS") (removed_status answer.1)

-- the row, given the parts of the arguments: queue and interface
abbrev pub remove_by : List (List ℕ) → CellOf → Outcome
remove_by parts cell = reported_removed cell (remove_row cell.queues (part 0 parts) (interface_of cell.number (part 1 parts)))

-- the row of `RemoveQueueMember`
unfoldable pub remove_member_row : Row
remove_member_row arguments cell = remove_by (arguments_of arguments) cell
