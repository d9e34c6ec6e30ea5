use Rattle.std.proofs.Common.{◌≡◌, ◌++◌}
use Rattle.std.specs.List.{flat_map}
use Rattle.dp_plan.specs.Ranking.{numbers_of}
use Rattle.dp_audit.specs.FallThroughs.{of_id}
use Rattle.dp_audit.proofs.fall_through.push_of_context.Given as goal

abbrev pub invariant-loop-entry : goal.invariant-loop-entry
invariant-loop-entry l = record {
  found : l.list.items ≡ l.fn.list.items ++ flat_map (of_id l.initial.finder) (numbers_of l.number l.entry);
  same : l.finder ≡ l.initial.finder;
}
