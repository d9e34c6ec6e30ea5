use Rattle.std.proofs.Common.{◌-◌, length}
use Rattle.dp_trie.proofs.BuildLemmas.{AreBuilt}
use Rattle.dp_trie.proofs.plain.plain_names.Given as goal

abbrev pub invariant-loop-first : goal.invariant-loop-first
invariant-loop-first l = AreBuilt l.ranked l.names.items l.from

abbrev pub decreases-loop-first : goal.decreases-loop-first
decreases-loop-first l = length l.ranked - l.from
