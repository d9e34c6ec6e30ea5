use Rattle.std.proofs.Common.{◌≡◌, ◌++◌, take, drop, map}
use Rattle.dp_queue.specs.Members.{paused_queue}
use Rattle.dp_queue.proofs.queue_list.pause_each.Given as goal

abbrev pub invariant-loop-queue : goal.invariant-loop-queue
invariant-loop-queue l = l.queues ≡ map (paused_queue l.agent l.is_paused) (take l.queue-index l.initial.queues) ++ drop l.queue-index l.initial.queues
