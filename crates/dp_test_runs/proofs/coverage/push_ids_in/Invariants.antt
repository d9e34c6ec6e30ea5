use Rattle.std.proofs.Common.{◌≡◌, ◌++◌, drop}
use Rattle.dp_test_runs.specs.Coverage.{ids_in}
use Rattle.dp_test_runs.proofs.coverage.push_ids_in.Given as goal

abbrev pub invariant-loop-entry : goal.invariant-loop-entry
invariant-loop-entry l = record {
  number : l.number ≡ l._entry-index;
  ids : l.ids ++ ids_in l.context l.number (drop l._entry-index l.entries) ≡ l.fn.ids ++ ids_in l.context 0 l.entries;
}
