use Rattle.std.proofs.Common.{◌≡◌, ◌++◌}
use Rattle.std.specs.List.{flat_map, range_with_len}
use Rattle.dp_graph.specs.Picture.{inclusions_at}
use Rattle.dp_graph.specs.Printing.{inclusions_text}
use Rattle.dp_graph.proofs.inclusions.push_inclusions.Given as goal

-- the includes of the contexts so far are added
abbrev pub invariant-loop-number : goal.invariant-loop-number
invariant-loop-number l = l.out.items ≡ l.fn.out.items ++ inclusions_text (flat_map (inclusions_at l.plan) (range_with_len 0 l.number))
