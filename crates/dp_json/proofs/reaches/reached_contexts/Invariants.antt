use Rattle.std.proofs.Common.{◌≡◌, ◌+◌, ◌≤◌, drop}
use Rattle.dp_json.specs.Reaches.{reached_contexts}
use Rattle.dp_json.proofs.reaches.reached_contexts.Given as goal

abbrev pub invariant-loop-context : goal.invariant-loop-context
invariant-loop-context l = record {
  sum : l.count + reached_contexts (drop l.context-index l.contexts) ≡ reached_contexts l.contexts;
  bound : l.count ≤ l.context-index;
}
