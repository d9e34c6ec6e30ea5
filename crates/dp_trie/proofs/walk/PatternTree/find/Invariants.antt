use Rattle.std.proofs.Common.{◌-◌, length}
use Rattle.dp_pattern.specs.Dashes.{without_dashes}
use Rattle.dp_trie.specs.Asked.{is_more, wants}
use Rattle.dp_trie.specs.steps.Digits.{Stands}
use Rattle.dp_trie.proofs.TreeLemmas.{IsAt}
use Rattle.dp_trie.proofs.walk.PatternTree.find.Given as goal

abbrev pub invariant-loop-node : goal.invariant-loop-node
invariant-loop-node l = record {
  stands : Stands l.digits.text.now l.cursor;
  at : IsAt l.self.held.now (is_more l.question) (wants l.question) (without_dashes l.digits.text.now) l.self.nodes.now l.place l.count;
}

abbrev pub decreases-loop-node : goal.decreases-loop-node
decreases-loop-node l = length l.self.nodes.now - l.place
