use Rattle.std.proofs.Common.{◌≡◌, drop}
use Rattle.std.specs.List.{find}
use Rattle.dp_pattern.specs.Dashes.{without_dashes}
use Rattle.dp_trie.specs.Asked.{is_more, wants, is_asked}
use Rattle.dp_trie.specs.Names.{known_plain}
use Rattle.dp_trie.proofs.plain.find_in_front.Given as goal

abbrev pub invariant-loop-plain : goal.invariant-loop-plain
invariant-loop-plain l =
    find (is_asked (is_more l.question) (wants l.question) (without_dashes l.digits.text.now)) (known_plain l.held (drop l.plain-index l.names))
    ≡ find (is_asked (is_more l.question) (wants l.question) (without_dashes l.digits.text.now)) (known_plain l.held l.names)
