use Rattle.std.proofs.Common.{◌≡◌, ◌++◌}
use Rattle.std.specs.List.{flat_map, range_with_len}
use Rattle.dp_wide_runs.specs.WideFindings.{of_context}
use Rattle.dp_wide_runs.proofs.functions_called.push_no_functions.Given as goal

abbrev pub invariant-loop-number : goal.invariant-loop-number
invariant-loop-number l = l.list.items ≡ l.fn.list.items ++ flat_map (of_context l.plan) (range_with_len 0 l.number)
