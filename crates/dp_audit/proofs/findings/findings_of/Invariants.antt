use Rattle.std.proofs.Common.{◌≡◌}
use Rattle.std.specs.List.{flat_map, range_with_len}
use Rattle.dp_audit.specs.Findings.{findings_of_context}
use Rattle.dp_audit.proofs.findings.findings_of.Given as goal

abbrev pub invariant-loop-number : goal.invariant-loop-number
invariant-loop-number g l = record {
  found : l.findings.items ≡ flat_map (findings_of_context g.N.AppNames.known l.initial.finder) (range_with_len 0 l.number);
  same : l.finder ≡ l.initial.finder;
}
