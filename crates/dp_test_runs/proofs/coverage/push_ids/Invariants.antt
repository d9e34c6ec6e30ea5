use Rattle.std.proofs.Common.{◌≡◌, ◌++◌, drop}
use Rattle.dp_test_runs.specs.Coverage.{ids_from}
use Rattle.dp_test_runs.proofs.coverage.push_ids.Given as goal

abbrev pub invariant-loop-context : goal.invariant-loop-context
invariant-loop-context l = record {
  number : l.number ≡ l.context-index;
  ids : l.ids ++ ids_from l.number (drop l.context-index l.contexts) ≡ l.fn.ids ++ ids_from 0 l.contexts;
}
