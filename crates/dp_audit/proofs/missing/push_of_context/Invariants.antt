use Rattle.std.proofs.Common.{◌≡◌, ◌++◌, map}
use Rattle.std.specs.List.{flat_map}
use Rattle.dp_plan.specs.Ranking.{numbers_of}
use Rattle.dp_audit.specs.Missing.{of_id, target_now}
use Rattle.dp_audit.proofs.missing.push_of_context.Given as goal

abbrev pub invariant-loop-entry : goal.invariant-loop-entry
invariant-loop-entry g l =
    map target_now l.list.items ≡ map target_now l.fn.list.items ++ flat_map (of_id g.J.Jumps.targets l.plan) (numbers_of l.number l.entry)
