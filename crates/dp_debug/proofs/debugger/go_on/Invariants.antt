use Rattle.std.proofs.Common.{◌≡◌, ℕ, ◌<◌, ◌≤◌, ◌++◌, None}
use Rattle.std.specs.List.{slice_range}
use Rattle.dp_app.specs.Rows.{with_functions}
use Rattle.dp_machine.specs.Replay.{replies_to, world_after}
use Rattle.dp_debug.specs.Cut.{first_at}
use Rattle.dp_debug.proofs.debugger.go_on.Given as goal

abbrev pub invariant-loop-taken : goal.invariant-loop-taken
invariant-loop-taken g l = record {
  world : l.machine ≡ world_after (with_functions g.T.AppTable.rows g.T.Functions.Functions.table) l.fn.machine (slice_range l.events l.rest.from l.taken);
  replies : l.trace.items ≡ l.fn.trace.items ++ replies_to (with_functions g.T.AppTable.rows g.T.Functions.Functions.table) l.fn.machine (slice_range l.events l.rest.from l.taken);
  none : (number : ℕ) → l.rest.from ≤ number → number < l.taken → first_at (with_functions g.T.AppTable.rows g.T.Functions.Functions.table) l.fn.machine l.events l.rest.from l.breaks number ≡ None;
}
