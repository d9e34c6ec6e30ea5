use Rattle.dp_trie.proofs.DigitLemmas.{AreKept}
use Rattle.dp_trie.proofs.digits.near_digits.Given as goal

abbrev pub invariant-loop-byte : goal.invariant-loop-byte
invariant-loop-byte l = AreKept l.text l.bytes l.byte-index l.count
