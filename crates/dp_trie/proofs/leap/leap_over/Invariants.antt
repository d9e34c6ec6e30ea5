use Rattle.std.proofs.Common.{◌-◌, length}
use Rattle.dp_trie.proofs.leap.leap_over.Given as goal

abbrev pub decreases-loop-leap : goal.decreases-loop-leap
decreases-loop-leap l = length l.leaps - l.next
