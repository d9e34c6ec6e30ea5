use Rattle.std.proofs.Common.{◌-◌, length}
use Rattle.dp_trie.proofs.BuildLemmas.{IsBuilt}
use Rattle.dp_trie.proofs.EnteredLemmas.{IsCounted}
use Rattle.dp_trie.proofs.build.build_nodes.Given as goal

abbrev pub invariant-loop-first : goal.invariant-loop-first
invariant-loop-first l = record {
  built : IsBuilt l.ranked l.nodes.items l.above l.from;
  counted : IsCounted l.ranked l.nodes.items l.above l.from;
}

abbrev pub decreases-loop-first : goal.decreases-loop-first
decreases-loop-first l = length l.ranked - l.from
