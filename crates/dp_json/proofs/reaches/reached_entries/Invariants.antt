use Rattle.std.proofs.Common.{◌≡◌, ◌+◌, ◌*◌, ◌≤◌, drop}
use Rattle.dp_json.specs.Reaches.{reached_entries}
use Rattle.dp_json.proofs.reaches.reached_entries.Given as goal

abbrev pub invariant-loop-context : goal.invariant-loop-context
invariant-loop-context l = record {
  sum : l.count + reached_entries (drop l.context-index l.contexts) ≡ reached_entries l.contexts;
  bound : l.count ≤ l.context-index * 18446744073709551615;
}
