use Rattle.std.proofs.Common.{◌≡◌, ◌++◌, filter, length, map}
use Rattle.dp_audit.specs.Unset.{lacks, names_read}
use Rattle.dp_audit.specs.declared.finding.Finding.TheVariants.{Unset}
use Rattle.dp_audit.proofs.unset_variables.push_names.Given as goal

abbrev pub invariant-loop-byte : goal.invariant-loop-byte
invariant-loop-byte l =
    l.findings.items ++ map (Unset l.id) (filter (lacks l.noted) (names_read l.left))
    ≡ l.initial.findings.items ++ map (Unset l.id) (filter (lacks l.noted) (names_read l.text))

abbrev pub decreases-loop-byte : goal.decreases-loop-byte
decreases-loop-byte l = length l.left
