use Rattle.std.proofs.Common.{◌≡◌, ◌++◌, map}
use Rattle.std.specs.List.{range_with_len}
use Rattle.dp_graph.specs.Picture.{inclusion_at}
use Rattle.dp_graph.specs.Printing.{inclusions_text}
use Rattle.dp_graph.proofs.inclusions.push_all_at.Given as goal

-- the includes so far are added
abbrev pub invariant-loop-index : goal.invariant-loop-index
invariant-loop-index l = l.out.items ≡ l.fn.out.items ++ inclusions_text (map (inclusion_at l.plan l.number) (range_with_len 0 l.index))
