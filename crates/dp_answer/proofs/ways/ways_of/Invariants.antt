use Rattle.std.proofs.Common.{◌≡◌, ◌++◌, drop, map}
use Rattle.dp_pieces.specs.Pieces.{exactly}
use Rattle.dp_pieces.specs.Shown.{shown_all}
use Rattle.dp_answer.proofs.ways.ways_of.Given as goal

abbrev pub invariant-loop-queue : goal.invariant-loop-queue
invariant-loop-queue l = map (λ way. shown_all way.items) l.ways.items ++ map (λ settings. exactly settings.context) (map (λ queue. queue.settings) (drop l.queue-index l.queues.queues))
    ≡ map (λ settings. exactly settings.context) (map (λ queue. queue.settings) l.queues.queues)
