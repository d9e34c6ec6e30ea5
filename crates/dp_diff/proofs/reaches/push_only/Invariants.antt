use Rattle.std.proofs.Common.{◌≡◌, ◌≤◌, ◌++◌, filter, length, map, take}
use Rattle.std.specs.List.{flat_map}
use Rattle.dp_diff.specs.Reaches.{reach_line, reaches_only}
use Rattle.dp_diff.specs.steps.Reaching.{reach_of_table}
use Rattle.dp_diff.proofs.reaches.push_only.Given as goal

-- the lines of the contexts so far are added and counted
abbrev pub invariant-loop-context : goal.invariant-loop-context
invariant-loop-context l = record {
  added : l.out.items ≡ l.fn.out.items
      ++ flat_map (reach_line l.sign) (filter (reaches_only (reach_of_table l.one) (reach_of_table l.other)) (map (λ context. context.name) (take l.context-index l.context-items)));
  counted : l.count ≡ length (filter (reaches_only (reach_of_table l.one) (reach_of_table l.other)) (map (λ context. context.name) (take l.context-index l.context-items)));
  within : l.count ≤ l.context-index;
}
