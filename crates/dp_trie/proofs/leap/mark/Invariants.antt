use Rattle.dp_trie.proofs.LeapLemmas.{AreMarked}
use Rattle.dp_trie.proofs.leap.mark.Given as goal

abbrev pub invariant-loop-byte : goal.invariant-loop-byte
invariant-loop-byte l = AreMarked l.class l.fn.marks l.byte l.marks
