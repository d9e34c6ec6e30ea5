use Rattle.std.proofs.Common.{◌≡◌, ◌++◌, length}
use Rattle.std.specs.List.{flat_map}
use Rattle.std.specs.Vec.Iter.{into_iter_items, into_iter_len}
use Rattle.dp_wide_runs.specs.Kinds.{choice_of}
use Rattle.dp_wide_runs.specs.WideFindings.{finding_if}
use Rattle.dp_wide_runs.proofs.audit_findings.push_findings.Given as goal

abbrev pub invariant-loop-finding : goal.invariant-loop-finding
invariant-loop-finding l = record {
  left : l.list.items ++ flat_map (finding_if (choice_of l.fn.choice) l.scene) (into_iter_items l.finding-iterator)
      ≡ l.fn.list.items ++ flat_map (finding_if (choice_of l.fn.choice) l.scene) l.fn.findings.items;
  many : into_iter_len l.finding-iterator ≡ length (into_iter_items l.finding-iterator);
}
