use Rattle.std.proofs.Common.{◌≡◌, ◌++◌}
use Rattle.std.specs.List.{flat_map, range_with_len}
use Rattle.dp_graph.specs.Picture.{context_arrows}
use Rattle.dp_graph.specs.Printing.{arrows_text}
use Rattle.dp_graph.proofs.arrows.push_arrows.Given as goal

-- the arrows of the contexts so far are added
abbrev pub invariant-loop-number : goal.invariant-loop-number
invariant-loop-number l = record {
  added : l.out.items ≡ l.fn.out.items ++ arrows_text (flat_map (context_arrows l.fn.finder l.exits) (range_with_len 0 l.number));
  same : l.finder ≡ l.fn.finder;
}
