use Rattle.std.proofs.Common.{◌≡◌}
use Rattle.std.specs.List.{flat_map, range_with_len}
use Rattle.dp_audit.specs.FallThroughs.{of_context}
use Rattle.dp_audit.proofs.fall_through.find_fall_throughs.Given as goal

abbrev pub invariant-loop-number : goal.invariant-loop-number
invariant-loop-number l = record {
  found : l.list.items ≡ flat_map (of_context l.initial.finder) (range_with_len 0 l.number);
  same : l.finder ≡ l.initial.finder;
}
