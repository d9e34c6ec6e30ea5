use Rattle.std.proofs.Common.{◌≡◌, ◌+◌, ◌-◌, ◌^◌, ◌≤◌, min, take, drop}
use Rattle.std.specs.Prelude.{sum_by}
use Rattle.dp_pattern.specs.Dashes.{without_dashes}
use Rattle.dp_trie.specs.Asked.{is_more, wants, is_asked}
use Rattle.dp_trie.specs.Entered.{entered_first}
use Rattle.dp_trie.specs.Known.{nodes_at, found_first}
use Rattle.dp_trie.proofs.trie.find_first.Given as goal

abbrev pub invariant-loop-number : goal.invariant-loop-number
invariant-loop-number l = record {
  same :
      found_first l.tables (is_asked (is_more l.question) (wants l.question) (without_dashes l.digits.text.now)) (drop l.number-index l.order)
      ≡ found_first l.tables (is_asked (is_more l.question) (wants l.question) (without_dashes l.digits.text.now)) l.order;
  counted :
      min (l.count + entered_first l.tables (is_more l.question) (wants l.question) (without_dashes l.digits.text.now) (drop l.number-index l.order)) (2 ^ 64 - 1)
      ≡ min (entered_first l.tables (is_more l.question) (wants l.question) (without_dashes l.digits.text.now) l.order) (2 ^ 64 - 1);
  few : l.count ≤ 2 ^ 64 - 1;
  most : l.count ≤ sum_by (nodes_at l.tables) (take l.number-index l.order);
}
