use Rattle.std.proofs.Common.{◌≡◌, ◌++◌, drop}
use Rattle.std.specs.List.{flat_map}
use Rattle.dp_test_runs.specs.Coverage.{unless_run}
use Rattle.dp_test_runs.proofs.coverage.never_among.Given as goal

abbrev pub invariant-loop-id : goal.invariant-loop-id
invariant-loop-id l =
    l.never ++ flat_map (unless_run l.ran.keys) (drop l.id-index l.ids) ≡ flat_map (unless_run l.ran.keys) l.ids
