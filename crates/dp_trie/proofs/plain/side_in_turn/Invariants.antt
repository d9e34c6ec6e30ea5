use Rattle.std.proofs.Common.{◌≡◌, drop}
use Rattle.dp_pattern.specs.Dashes.{without_dashes}
use Rattle.dp_trie.specs.steps.Digits.{Stands}
use Rattle.dp_trie.specs.Names.{side_of}
use Rattle.dp_trie.proofs.plain.side_in_turn.Given as goal

abbrev pub invariant-loop-number : goal.invariant-loop-number
invariant-loop-number l = record {
  stands : Stands l.digits.text.now l.cursor;
  side : side_of (drop l.number l.name) (drop l.number (without_dashes l.digits.text.now)) ≡ side_of l.name (without_dashes l.digits.text.now);
}
