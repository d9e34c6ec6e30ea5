use Rattle.std.proofs.Common.{◌-◌, length}
use Rattle.dp_trie.specs.steps.Leaps.{AreLeaps}
use Rattle.dp_trie.proofs.leap.leaps_of.Given as goal

abbrev pub invariant-loop-place : goal.invariant-loop-place
invariant-loop-place l = AreLeaps l.nodes l.ends l.leaps.items

abbrev pub decreases-loop-place : goal.decreases-loop-place
decreases-loop-place l = length l.nodes - l.place
