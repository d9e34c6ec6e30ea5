use Rattle.std.proofs.Common.{◌≡◌, false, eqb, sym, rules, tests}
use Rattle.std.specs.List.{list_any}
use Rattle.dp_conf.proofs.LinesLemmas.{comment_start-none}
use Rattle.dp_conf.proofs.lines.comment_start.Goals as goal

pub returns-then-not-contains-clause-start : goal.returns-then-not-contains-clause-start
returns-then-not-contains-clause-start c =
    let none : list_any (λ b. eqb b 59) c.args.part.now ≡ false = search (rules, tests) in
    sym (comment_start-none 10 c.args.part.now none)
