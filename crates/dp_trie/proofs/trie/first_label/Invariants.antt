use Rattle.std.proofs.Common.{◌≡◌, false, drop}
use Rattle.dp_pattern.specs.Dashes.{without_dashes}
use Rattle.dp_trie.specs.Asked.{is_asked, has_label}
use Rattle.dp_trie.specs.Known.{found_first}
use Rattle.dp_trie.proofs.trie.first_label.Given as goal

abbrev pub invariant-loop-number : goal.invariant-loop-number
invariant-loop-number l =
    found_first l.tables (is_asked false (has_label l.label) (without_dashes l.digits.text.now)) (drop l.number-index l.order)
    ≡ found_first l.tables (is_asked false (has_label l.label) (without_dashes l.digits.text.now)) l.order
