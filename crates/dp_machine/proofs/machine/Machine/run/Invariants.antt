use Rattle.std.proofs.Common.{◌≡◌, ◌++◌, take}
use Rattle.dp_app.specs.Rows.{with_functions}
use Rattle.dp_machine.specs.Replay.{replies_to, world_after}
use Rattle.dp_machine.proofs.machine.Machine.run.Given as goal

abbrev pub invariant-loop-event : goal.invariant-loop-event
invariant-loop-event g l = record {
  replies : l.replies.items ≡ l.fn.replies.items ++ replies_to (with_functions g.T.AppTable.rows g.T.Functions.Functions.table) l.fn.self (take l.event-index l.events);
  world : l.self ≡ world_after (with_functions g.T.AppTable.rows g.T.Functions.Functions.table) l.fn.self (take l.event-index l.events);
}
