-- How a call joins a queue, leaves it, and is made to leave it.
use Rattle.std.specs.Prelude.{ℕ, suc, ◌+◌, ◌<◌, Bool, true, false, not, ◌&&◌, ◌==◌, nat_lt, nat_le, List, [], ◌∷◌, ◌++◌, length, Option, Some, None, slice_get, if◌then◌else◌}
use Rattle.std.specs.List.{list_any}
use Rattle.std.specs.Option.{option_map, unwrap_or}
use Rattle.dp_queue.specs.Agents.{all_freed}
use Rattle.dp_conf.specs.Changes.{changed_at}
use Rattle.dp_queue.specs.Changes.{without}
use Rattle.dp_queue.specs.Members.{has_active}
use Rattle.dp_queue.specs.Queues.{QueueOf, QueuesOf, queue_number}
use Rattle.dp_queue.specs.declared.join.Join.{Join}
use Rattle.dp_queue.specs.declared.join.Join.TheVariants.{Unknown, Empty, Full, Joined}
use Rattle.dp_queue.specs.declared.member.Member.{Member}
use Rattle.dp_queue.specs.declared.settings.EmptyRule.{EmptyRule}
use Rattle.dp_queue.specs.declared.settings.EmptyRule.TheVariants.{Yes, No, Strict, Loose}

-- a queue with these members is too empty to join, according to `joinempty`
abbrev pub refuses_join : EmptyRule → List Member → Bool
refuses_join Yes members = false
refuses_join No members = not (has_active members)
refuses_join Strict members = not (has_active members)
refuses_join Loose members = length members == 0

-- a queue with these members is too empty to stay in, according to `leavewhenempty`
abbrev pub refuses_stay : EmptyRule → List Member → Bool
refuses_stay Yes members = not (has_active members)
refuses_stay No members = false
refuses_stay Strict members = not (has_active members)
refuses_stay Loose members = length members == 0

-- as many calls wait as allowed, if there is a limit
abbrev pub is_full : ℕ → List ℕ → Bool
is_full maxlen waiting = nat_lt 0 maxlen && nat_le maxlen (length waiting)

-- the result of joining the queue with a number
abbrev pub join_answer : ℕ → QueueOf → Join
join_answer number queue =
    if refuses_join queue.settings.joinempty queue.members then Empty
    else if is_full queue.settings.maxlen queue.waiting then Full
    else Joined number

-- the result of joining the queue with a name, given the number of the queue
abbrev pub join_answer_at : List QueueOf → Option ℕ → Join
join_answer_at queues None = Unknown
join_answer_at queues (Some number) = unwrap_or (option_map (join_answer number) (slice_get queues number)) Unknown

-- the result of joining the queue with a name
abbrev pub would_join : List QueueOf → List ℕ → Join
would_join queues name = join_answer_at queues (queue_number queues name)

-- the number of a joined queue is below this one
abbrev pub IsWithin : ℕ → Join → Type 0
IsWithin count Unknown = Unit {0}
IsWithin count Empty = Unit {0}
IsWithin count Full = Unit {0}
IsWithin count (Joined number) = number < count

-- the queue with one more call, the last that waits
abbrev pub with_caller : ℕ → QueueOf → QueueOf
with_caller c queue = record queue { waiting = queue.waiting ++ c ∷ [] }

-- the queue without the call
abbrev pub without_caller : ℕ → QueueOf → QueueOf
without_caller c queue = record queue { waiting = without (λ d. d == c) queue.waiting }

-- the queues after a result of joining
abbrev pub after_join : QueuesOf → ℕ → Join → QueuesOf
after_join q c Unknown = q
after_join q c Empty = q
after_join q c Full = q
after_join q c (Joined number) = record q { queues = changed_at (with_caller c) number q.queues }

-- a call joins a queue
abbrev pub join_row : QueuesOf → List ℕ → ℕ → QueuesOf × Join
join_row q name c = (after_join q c (would_join q.queues name), would_join q.queues name)

-- whether the call waits in the queue
abbrev pub has_caller : ℕ → QueueOf → Bool
has_caller c queue = list_any (λ d. d == c) queue.waiting

-- the number of the queue in which the call waits
abbrev pub waits_in : List QueueOf → ℕ → Option ℕ
waits_in [] c = None
waits_in (queue ∷ queues) c = if has_caller c queue then Some 0 else option_map suc (waits_in queues c)

-- the number of times that the call is in a waiting list
abbrev pub times_in : ℕ → List ℕ → ℕ
times_in c [] = 0
times_in c (d ∷ ds) = (if d == c then 1 else 0) + times_in c ds

-- the number of times that the call is in the waiting lists
abbrev pub times_waiting : List QueueOf → ℕ → ℕ
times_waiting [] c = 0
times_waiting (queue ∷ queues) c = times_in c queue.waiting + times_waiting queues c

-- the call leaves the queue with a number, and the agents that ring for it become idle
abbrev pub after_leaving : QueuesOf → ℕ → ℕ → QueuesOf
after_leaving q number c = record q { queues = changed_at (without_caller c) number q.queues; agents = all_freed c q.agents }

-- a call leaves, given the number of the queue in which it waits
abbrev pub leave_row_at : QueuesOf → ℕ → Option ℕ → QueuesOf × Bool
leave_row_at q c None = (q, false)
leave_row_at q c (Some number) = (after_leaving q number c, true)

-- a call leaves the queue in which it waits
abbrev pub leave_row : QueuesOf → ℕ → QueuesOf × Bool
leave_row q c = leave_row_at q c (waits_in q.queues c)

-- the calls of the queue with a number must leave it, because it is too empty
abbrev pub should_leave : QueuesOf → ℕ → Bool
should_leave q number =
    unwrap_or (option_map (λ queue. refuses_stay queue.settings.leavewhenempty queue.members) (slice_get q.queues number)) false

-- the number of calls that wait in the queue with a number
abbrev pub waiting_count_at : List QueueOf → Option ℕ → ℕ
waiting_count_at queues None = 0
waiting_count_at queues (Some number) = unwrap_or (option_map (λ queue. length queue.waiting) (slice_get queues number)) 0

-- the number of calls that wait in the queue with a name
abbrev pub waiting_count : List QueueOf → List ℕ → ℕ
waiting_count queues name = waiting_count_at queues (queue_number queues name)
