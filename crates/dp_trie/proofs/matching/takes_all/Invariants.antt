use Rattle.std.proofs.Common.{◌≡◌, true, false, take}
use Rattle.dp_pattern.specs.Dashes.{without_dashes}
use Rattle.dp_trie.specs.steps.Digits.{Stands}
use Rattle.dp_trie.specs.Tree.{alive}
use Rattle.dp_trie.proofs.matching.takes_all.Given as goal

abbrev pub invariant-loop-number : goal.invariant-loop-number
invariant-loop-number l = record {
  stands : Stands l.digits.text.now l.cursor;
  taken : alive false (take l.number l.classes) (without_dashes l.digits.text.now) ≡ true;
}
