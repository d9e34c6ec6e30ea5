-- The row of `Queue`.
use Rattle.std.specs.Prelude.{ℕ, Bool, List, codes, if◌then◌else◌}
use Rattle.dp_conf.specs.Levels.{arguments_of}
use Rattle.dp_queue.specs.Joining.{join_row}
use Rattle.dp_queue.specs.Queues.{QueuesOf}
use Rattle.dp_queue.specs.declared.join.Join.{Join}
use Rattle.dp_queue.specs.declared.join.Join.TheVariants.{Unknown, Empty, Full, Joined}
use Rattle.dp_app.specs.Rows.{Outcome, Row}
use Rattle.dp_app.specs.Cells.{CellOf}
use Rattle.dp_app.specs.declared.moves.Move.TheVariants.{Hang, Park}
use Rattle.dp_app.specs.declared.phase.Phase.TheVariants.{Queued}
use Rattle.dp_qapps.specs.Reports.{with_report}
use Rattle.dp_app.specs.Parts.{has_option, is_given, part}

-- the channel does not wait: its status is set, and it goes on
abbrev pub stays_out : CellOf → List ℕ → Outcome
stays_out cell status = with_report cell cell.queues (codes "QUEUESTATUS") status

-- the channel waits in the queue with a number; a channel that is closing does not wait, and its call ends with nothing changed
abbrev pub wait_in_queue : Bool → CellOf → QueuesOf → ℕ → Bool → Bool → Outcome
wait_in_queue is_closing cell queues number goes_on has_timer =
    if is_closing then record { cell = cell; next = Hang }
    else record { cell = record cell { queues = queues }; next = Park (Queued number goes_on has_timer) }

-- the result of asking to join, given the reply and the queues after it
abbrev pub join_outcome : CellOf → Bool → Bool → QueuesOf → Join → Outcome
join_outcome cell goes_on has_timer queues Unknown = stays_out cell (codes "UNKNOWN")
join_outcome cell goes_on has_timer queues Empty = stays_out cell (codes "JOINEMPTY")
join_outcome cell goes_on has_timer queues Full = stays_out cell (codes "FULL")
join_outcome cell goes_on has_timer queues (Joined number) = wait_in_queue cell.is_closing cell queues number goes_on has_timer

-- the channel asks to join the queue with a name
abbrev pub asked_for : CellOf → Bool → Bool → QueuesOf × Join → Outcome
asked_for cell goes_on has_timer answer = join_outcome cell goes_on has_timer answer.0 answer.1

-- the row, given the parts of the arguments: queue, options, URL, announcement and time
abbrev pub queue_by : List (List ℕ) → CellOf → Outcome
queue_by parts cell =
    asked_for cell (has_option 99 (part 1 parts)) (is_given (part 4 parts)) (join_row cell.queues (part 0 parts) cell.number)

-- the row of `Queue`
unfoldable pub queue_row : Row
queue_row arguments cell = queue_by (arguments_of arguments) cell
