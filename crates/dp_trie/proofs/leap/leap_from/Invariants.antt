use Rattle.std.proofs.Common.{◌≤◌, ◌-◌}
use Rattle.dp_trie.specs.steps.Leaps.{Passes}
use Rattle.dp_trie.proofs.leap.leap_from.Given as goal

abbrev pub invariant-loop-class : goal.invariant-loop-class
invariant-loop-class l = record {
  few : l.passed ≤ 64;
  passes : Passes l.nodes l.ends l.marks l.passed l.from l.until;
}

abbrev pub decreases-loop-class : goal.decreases-loop-class
decreases-loop-class l = 64 - l.passed
