use Rattle.std.proofs.Common.{◌≡◌, ◌++◌, drop}
use Rattle.dp_json.specs.Findings.{findings_text}
use Rattle.dp_json.proofs.findings.push_findings.Given as goal

-- with the lines of the rest, all lines are added
abbrev pub invariant-loop-finding : goal.invariant-loop-finding
invariant-loop-finding l =
    l.out.items ++ findings_text l.plan (drop l.finding-index l.findings) ≡ l.fn.out.items ++ findings_text l.plan l.findings
