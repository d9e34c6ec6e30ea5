use Rattle.std.proofs.Common.{◌-◌, ◌^◌, arith}
use Rattle.dp_pattern.specs.Dashes.{without_dashes}
use Rattle.dp_trie.specs.Asked.{is_more, wants}
use Rattle.dp_trie.proofs.EnteredLemmas.{first-end}
use Rattle.dp_trie.proofs.trie.find_first.Goals as goal

pub returns-clause-count : goal.returns-clause-count
returns-clause-count c =
    first-end c.args.tables.now (is_more c.args.question) (wants c.args.question) (without_dashes c.args.digits.now.text.now) c.args.order.now c.loop-number.number-index c.loop-number.count (2 ^ 64 - 1) _
    (omega arith) (omega arith) c.loop-number.invariant.counted
