use Rattle.std.proofs.Common.{◌≤◌, ◌-◌, length}
use Rattle.dp_trie.specs.steps.Digits.{Stands}
use Rattle.dp_trie.proofs.digits.go_on.Given as goal

abbrev pub invariant-loop-byte : goal.invariant-loop-byte
invariant-loop-byte l = record {
  stands : Stands l.text l.cursor;
  most : l.cursor.number ≤ l.number;
}

abbrev pub decreases-loop-byte : goal.decreases-loop-byte
decreases-loop-byte l = length l.text - l.cursor.place
