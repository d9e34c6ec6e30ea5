use Rattle.std.proofs.Common.{◌≡◌, ◌++◌}
use Rattle.std.specs.List.{flat_map}
use Rattle.dp_plan.specs.Ranking.{numbers_of}
use Rattle.dp_audit.specs.Findings.{findings_of_entry}
use Rattle.dp_audit.proofs.findings.push_of_entries.Given as goal

abbrev pub invariant-loop-entry : goal.invariant-loop-entry
invariant-loop-entry g l = record {
  found : l.findings.items ≡ l.fn.findings.items ++ flat_map (findings_of_entry g.N.AppNames.known l.initial.finder) (numbers_of l.number l.entry);
  same : l.finder ≡ l.initial.finder;
}
