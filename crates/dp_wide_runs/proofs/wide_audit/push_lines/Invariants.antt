use Rattle.std.proofs.Common.{◌≡◌, ◌++◌, drop}
use Rattle.std.specs.List.{flat_map}
use Rattle.dp_wide_runs.specs.WideAudits.{wide_line}
use Rattle.dp_wide_runs.proofs.wide_audit.push_lines.Given as goal

abbrev pub invariant-loop-finding : goal.invariant-loop-finding
invariant-loop-finding l =
    l.out.begun ++ flat_map (wide_line l.plan) (drop l.finding-index l.findings) ≡ l.fn.out.begun ++ flat_map (wide_line l.plan) l.findings
