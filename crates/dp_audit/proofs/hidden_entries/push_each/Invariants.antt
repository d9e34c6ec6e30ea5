use Rattle.std.proofs.Common.{◌≡◌, ◌++◌, map, take}
use Rattle.dp_audit.specs.declared.finding.Finding.TheVariants.{Hidden}
use Rattle.dp_audit.proofs.hidden_entries.push_each.Given as goal

abbrev pub invariant-loop-from : goal.invariant-loop-from
invariant-loop-from l = l.findings.items ≡ l.initial.findings.items ++ map (Hidden l.id) (take l.from-index l.contexts)
