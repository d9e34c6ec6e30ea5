use Rattle.std.proofs.Common.{◌≡◌, drop}
use Rattle.dp_graph.specs.Jumps.{exit_of}
use Rattle.dp_graph.proofs.jumps.exit_of.Given as goal

-- those so far are of other queues
abbrev pub invariant-loop-exit : goal.invariant-loop-exit
invariant-loop-exit l = exit_of (drop l.exit-index l.exits) l.queue ≡ exit_of l.exits l.queue
