use Rattle.std.proofs.Common.{◌≤◌, length}
use Rattle.dp_trie.specs.Tree.{AreLinkedFrom}
use Rattle.dp_trie.proofs.link.link.Given as goal

abbrev pub invariant-loop-place : goal.invariant-loop-place
invariant-loop-place l = record {
  within : l.place ≤ length l.nodes;
  linked : AreLinkedFrom l.place l.nodes l.ends.items;
}

abbrev pub decreases-loop-place : goal.decreases-loop-place
decreases-loop-place l = l.place
