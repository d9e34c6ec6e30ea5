-- The arguments that the applications of queues read, and the status that they report.
use Rattle.std.specs.Prelude.{ℕ, nat_le, List, [], ◌∷◌, Option, Some, None, if◌then◌else◌}
use Rattle.dp_conf.specs.Numbers.{number_of}
use Rattle.dp_queue.specs.Queues.{QueuesOf}
use Rattle.dp_vars.specs.Sights.{channel_name}
use Rattle.dp_vars.specs.Stores.{set}
use Rattle.dp_app.specs.Rows.{Outcome}
use Rattle.dp_app.specs.Cells.{CellOf}
use Rattle.dp_app.specs.declared.moves.Move.TheVariants.{Next}

-- the interface that a part names; an empty part means the channel that runs the application
abbrev pub interface_of : ℕ → List ℕ → List ℕ
interface_of channel [] = channel_name channel
interface_of channel (b ∷ bs) = b ∷ bs

-- the greatest penalty
abbrev pub most_penalty : ℕ
most_penalty = 2147483647

-- the penalty of a number; 0 if there is none, or if it is above the greatest
abbrev pub penalty_by : Option ℕ → ℕ
penalty_by None = 0
penalty_by (Some number) = if nat_le number most_penalty then number else 0

-- the penalty that a part writes
abbrev pub penalty_of : List ℕ → ℕ
penalty_of text = penalty_by (number_of text)

-- the cell with other queues and a status variable set, and the channel goes on
abbrev pub with_report : CellOf → QueuesOf → List ℕ → List ℕ → Outcome
with_report cell queues name status =
    record { cell = record cell { queues = queues; store = set cell.store name status }; next = Next }
