use Rattle.std.proofs.Common.{◌≡◌, ◌++◌, drop}
use Rattle.std.specs.List.{flat_map}
use Rattle.dp_commands.specs.Audit.{finding_line}
use Rattle.dp_commands.proofs.findings.push_findings.Given as goal

abbrev pub invariant-loop-finding : goal.invariant-loop-finding
invariant-loop-finding l =
    l.out.begun ++ flat_map (finding_line l.plan) (drop l.finding-index l.findings) ≡ l.fn.out.begun ++ flat_map (finding_line l.plan) l.findings
