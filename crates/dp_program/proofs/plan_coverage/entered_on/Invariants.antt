use Rattle.std.proofs.Common.{◌≡◌, ◌++◌, drop}
use Rattle.std.specs.List.{flat_map}
use Rattle.dp_program.specs.TestSuites.{entered_by}
use Rattle.dp_program.proofs.plan_coverage.entered_on.Given as goal

abbrev pub invariant-loop-run : goal.invariant-loop-run
invariant-loop-run l = l.entered ++ flat_map (entered_by l.plan) (drop l.run-index l.runs) ≡ flat_map (entered_by l.plan) l.runs
