use Rattle.std.proofs.Common.{◌≡◌, ◌++◌, drop}
use Rattle.std.specs.List.{flat_map}
use Rattle.dp_test_runs.specs.Coverage.{never_by}
use Rattle.dp_test_runs.proofs.coverage.push_each_never.Given as goal

abbrev pub invariant-loop-id : goal.invariant-loop-id
invariant-loop-id l =
    l.out.items ++ flat_map (never_by l.plan.places l.plan.lines.now l.plan.plan.now l.ran.keys) (drop l.id-index l.ids)
    ≡ l.fn.out.items ++ flat_map (never_by l.plan.places l.plan.lines.now l.plan.plan.now l.ran.keys) l.ids
