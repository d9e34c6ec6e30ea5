use Rattle.std.proofs.Common.{◌≡◌, false, eqb, ap, sym, rules, tests}
use Rattle.std.specs.List.{list_any}
use Rattle.dp_conf.specs.Blanks.{trim}
use Rattle.dp_conf.proofs.LinesLemmas.{without_escapes-plain}
use Rattle.dp_conf.proofs.lines.plain_text.Goals as goal

pub returns-then-not-contains : goal.returns-then-not-contains
returns-then-not-contains c =
    let none : list_any (λ b. eqb b 92) c.args.before.now ≡ false = search (rules, tests) in
    ap trim (sym (without_escapes-plain c.args.before.now none))
