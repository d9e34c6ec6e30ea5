use Rattle.std.proofs.Common.{◌≡◌, ◌++◌}
use Rattle.std.specs.List.{flat_map}
use Rattle.dp_plan.specs.Ranking.{numbers_of}
use Rattle.dp_wide_runs.specs.WideFindings.{of_id}
use Rattle.dp_wide_runs.proofs.functions_called.push_of_context.Given as goal

abbrev pub invariant-loop-entry : goal.invariant-loop-entry
invariant-loop-entry l = l.list.items ≡ l.fn.list.items ++ flat_map (of_id l.plan) (numbers_of l.number l.entry)
