use Rattle.dp_trie.proofs.KeepLemmas.{KeepsUpTo}
use Rattle.dp_trie.proofs.trie.Trie.build.Given as goal

abbrev pub invariant-loop-number : goal.invariant-loop-number
invariant-loop-number l = KeepsUpTo l.number l.plan l.tables.items
