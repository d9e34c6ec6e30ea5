use Rattle.std.proofs.Common.{◌≡◌, ◌<◌, ◌≤◌, ◌-◌, ◌+◌, length, drop}
use Rattle.dp_trie.specs.Tree.{nodes_past}
use Rattle.dp_trie.proofs.link.end_of.Given as goal

-- what the node skips is what it skips from here on
abbrev pub invariant-loop-node : goal.invariant-loop-node
invariant-loop-node l = record {
  later : l.place < l.end;
  within : l.end ≤ length l.nodes;
  same : nodes_past l.depth (drop l.end l.nodes) ≡ nodes_past l.depth (drop (l.place + 1) l.nodes);
}

abbrev pub decreases-loop-node : goal.decreases-loop-node
decreases-loop-node l = length l.nodes - l.end
