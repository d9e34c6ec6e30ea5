use Rattle.std.proofs.Common.{◌≡◌, ◌++◌, drop}
use Rattle.dp_test_runs.specs.Traces.{trace_from}
use Rattle.dp_test_runs.proofs.traces.trace_of.Given as goal

abbrev pub invariant-loop-entry : goal.invariant-loop-entry
invariant-loop-entry l = record {
  place : l.place ≡ l.entry-index;
  trace : l.trace ++ trace_from l.sources l.changes l.place (drop l.entry-index l.ran) ≡ trace_from l.sources l.changes 0 l.ran;
}
