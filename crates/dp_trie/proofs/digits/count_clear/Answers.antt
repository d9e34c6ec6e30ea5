use Rattle.std.proofs.Common.{◌≡◌, false, eqb, take, arith, rules, tests}
use Rattle.std.specs.List.{list_any}
use Rattle.dp_trie.proofs.DigitLemmas.{is-clear}
use Rattle.dp_trie.proofs.digits.count_clear.Goals as goal

pub returns-else-contains : goal.returns-else-contains
returns-else-contains c =
    let none : list_any (λ b. eqb b 45) (take c.min-count.result c.args.text.now) ≡ false = search (rules, tests) in
    is-clear c.args.text.now c.min-count.result (omega arith) none
