use Rattle.dp_queue.proofs.PlacesLemmas.{size_through}
use Rattle.dp_queue.proofs.WordLemmas.{IsWalkedTo}
use Rattle.dp_queue.proofs.queue_list.find_queue.Given as goal

abbrev pub invariant-loop-at : goal.invariant-loop-at
invariant-loop-at l = IsWalkedTo l.name l.queues l.at

abbrev pub decreases-loop-at : goal.decreases-loop-at
decreases-loop-at l = size_through l.at
