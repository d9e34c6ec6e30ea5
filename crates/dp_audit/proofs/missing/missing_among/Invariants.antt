use Rattle.std.proofs.Common.{◌≡◌, ◌++◌, drop, map}
use Rattle.dp_audit.specs.Missing.{missing_among, target_now}
use Rattle.dp_audit.proofs.missing.missing_among.Given as goal

abbrev pub invariant-loop-target : goal.invariant-loop-target
invariant-loop-target l = record {
  found : l.findings.items ++ missing_among l.plan (map target_now (drop l.target-index l.targets)) ≡ missing_among l.plan (map target_now l.targets);
  same : l.finder ≡ l.plan;
}
