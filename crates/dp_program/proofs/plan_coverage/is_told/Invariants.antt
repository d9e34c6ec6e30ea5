use Rattle.std.proofs.Common.{◌≡◌, drop}
use Rattle.std.specs.List.{list_any}
use Rattle.dp_program.specs.TestSuites.{same_plan}
use Rattle.dp_program.proofs.plan_coverage.is_told.Given as goal

-- those so far are on other dialplans
abbrev pub invariant-loop-plan : goal.invariant-loop-plan
invariant-loop-plan l = list_any (same_plan l.run) (drop l.plan-index l.told) ≡ list_any (same_plan l.run) l.told
