use Rattle.std.proofs.Common.{◌≡◌, ◌++◌, drop, map}
use Rattle.dp_wide_runs.specs.declared.wide_finding.WideFinding.TheVariants.{EndlessRun}
use Rattle.dp_wide_runs.proofs.audit_findings.push_each_run.Given as goal

abbrev pub invariant-loop-run : goal.invariant-loop-run
invariant-loop-run l = l.list.items ++ map EndlessRun (drop l.run-index l.runs) ≡ l.fn.list.items ++ map EndlessRun l.runs
