use Rattle.std.proofs.Common.{◌≡◌, ◌++◌, drop}
use Rattle.dp_json.specs.WideFindings.{wide_text}
use Rattle.dp_json.proofs.wide_findings.push_wide_findings.Given as goal

-- with the lines of the rest, all lines are added
abbrev pub invariant-loop-finding : goal.invariant-loop-finding
invariant-loop-finding l = l.out.items ++ wide_text l.plan (drop l.finding-index l.findings) ≡ l.fn.out.items ++ wide_text l.plan l.findings
