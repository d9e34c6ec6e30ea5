use Rattle.std.proofs.Common.{◌≡◌, map}
use Rattle.std.specs.List.{flat_map, range_with_len}
use Rattle.dp_audit.specs.Missing.{of_context, target_now}
use Rattle.dp_audit.proofs.missing.targets_of.Given as goal

abbrev pub invariant-loop-number : goal.invariant-loop-number
invariant-loop-number g l = map target_now l.list.items ≡ flat_map (of_context g.J.Jumps.targets l.plan) (range_with_len 0 l.number)
