use Rattle.std.proofs.Common.{◌≡◌, ◌++◌, drop}
use Rattle.dp_test_runs.specs.Traces.{entered_from}
use Rattle.dp_test_runs.proofs.traces.entered_entries.Given as goal

abbrev pub invariant-loop-entry : goal.invariant-loop-entry
invariant-loop-entry l = record {
  place : l.place ≡ l.entry-index;
  entered : l.entered ++ entered_from l.changes l.place (drop l.entry-index l.ran) ≡ entered_from l.changes 0 l.ran;
}
