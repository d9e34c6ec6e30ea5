use Rattle.std.proofs.Common.{◌≡◌, true, false, sym, ap, ◌∙◌, rules, tests, if◌then◌else◌}
use Rattle.std.specs.Prelude.{codes}
use Rattle.dp_conf.specs.Words.{same_text}
use Rattle.dp_pieces.specs.Bytes.{none}
use Rattle.dp_pieces.specs.Sets.{set_by}
use Rattle.dp_pieces.proofs.SetLemmas.{none-set}
use Rattle.dp_pieces.proofs.names_at.NamesAt.caller_set.Goals as goal

pub returns-then-eq : goal.returns-then-eq
returns-then-eq c = λ b.
    let same : same_text c.args.argument.now (codes "num") ≡ true = search (rules, tests) in
    c.caller.ensures b ∙ sym (ap (λ t. (if t then set_by c.args.self.now.table.now.caller else none) b) same)

pub returns-else-eq : goal.returns-else-eq
returns-else-eq c = λ b.
    let other : same_text c.args.argument.now (codes "num") ≡ false = search (rules, tests) in
    none-set c.none.result c.none.ensures b ∙ sym (ap (λ t. (if t then set_by c.args.self.now.table.now.caller else none) b) other)
