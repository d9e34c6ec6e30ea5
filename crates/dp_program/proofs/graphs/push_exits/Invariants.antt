use Rattle.std.proofs.Common.{◌≡◌, ◌++◌, drop}
use Rattle.dp_program.specs.Graphs.{exits_of}
use Rattle.dp_program.proofs.graphs.push_exits.Given as goal

abbrev pub invariant-loop-queue : goal.invariant-loop-queue
invariant-loop-queue l = l.exits.items ++ exits_of (drop l.queue-index l.queues) ≡ l.fn.exits.items ++ exits_of l.queues
