-- The counts of queues, given their names.
use Rattle.std.specs.Prelude.{ℕ, List, Option, Some, None, length, slice_get}
use Rattle.std.specs.Option.{option_map}
use Rattle.dp_vars.specs.Sights.{QueueCounts}
use Rattle.dp_queue.specs.Joining.{waiting_count}
use Rattle.dp_queue.specs.Queues.{QueueOf, queue_number}

-- the number of members of the queue with a number, if it exists
abbrev pub member_count_at : List QueueOf → Option ℕ → Option ℕ
member_count_at queues None = None
member_count_at queues (Some number) = option_map (λ queue. length queue.members) (slice_get queues number)

-- the number of calls that wait in each queue, and the number of its members, if it exists
abbrev pub counts_of : List QueueOf → QueueCounts
counts_of queues = record {
  waiting = waiting_count queues;
  members = λ name. member_count_at queues (queue_number queues name);
}
