use Rattle.std.proofs.Common.{◌≡◌, ◌+◌, ◌*◌, ◌≤◌, drop}
use Rattle.dp_json.specs.Reaches.{all_entries}
use Rattle.dp_json.proofs.reaches.all_entries.Given as goal

abbrev pub invariant-loop-context : goal.invariant-loop-context
invariant-loop-context l = record {
  sum : l.count + all_entries (drop l.context-index l.contexts) ≡ all_entries l.contexts;
  bound : l.count ≤ l.context-index * 18446744073709551615;
}
