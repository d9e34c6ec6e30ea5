-- Endless runs that are added after other findings.
use Rattle.std.specs.Prelude.{◌≡◌, Bool, List, ◌++◌}
use Rattle.dp_plan.specs.Plan.{PlanOf}
use Rattle.dp_wide_runs.specs.WideFindings.{AreRunsTold}
use Rattle.dp_wide_runs.specs.declared.wide_finding.WideFinding.{WideFinding}

-- the endless runs of the dialplan follow some findings, if they are reported
pub record AddsRuns (is_told : Bool) (plan : PlanOf) (old new : List WideFinding) : Type 0 where
  pub runs : List WideFinding
  pub endless : AreRunsTold is_told plan runs
  pub added : new ≡ old ++ runs
