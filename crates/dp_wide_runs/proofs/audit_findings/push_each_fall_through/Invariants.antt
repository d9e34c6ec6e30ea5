use Rattle.std.proofs.Common.{◌≡◌, ◌++◌, drop}
use Rattle.std.specs.List.{flat_map}
use Rattle.dp_wide_runs.specs.WideFindings.{fall_through_if}
use Rattle.dp_wide_runs.proofs.audit_findings.push_each_fall_through.Given as goal

abbrev pub invariant-loop-found : goal.invariant-loop-found
invariant-loop-found l =
    l.list.items ++ flat_map (fall_through_if l.plan) (drop l.found-index l.all) ≡ l.fn.list.items ++ flat_map (fall_through_if l.plan) l.all
