use Rattle.std.proofs.Common.{take}
use Rattle.dp_test_runs.specs.Coverage.{has_run}
use Rattle.dp_test_runs.specs.steps.Kept.{Adds}
use Rattle.dp_test_runs.proofs.coverage.add_ids.Given as goal

abbrev pub invariant-loop-id : goal.invariant-loop-id
invariant-loop-id l = Adds (has_run (take l.id-index l.ids)) l.initial.kept.keys l.kept.keys
