use Rattle.std.proofs.Common.{◌≡◌, eqb, true, false, ap, sym, ◌∙◌, rules, tests}
use Rattle.dp_plan.specs.EntryLine.{without_last}
use Rattle.dp_plan.proofs.EntryLemmas.{without_last-found, without_last-other}
use Rattle.dp_tests.proofs.words.before_closing.Goals as goal

pub returns-then-last-ne41 : goal.returns-then-last-ne41
returns-then-last-ne41 c =
    let other : eqb c.in_ok-last.last.now 41 ≡ false = search (rules, tests) in
    sym (ap (without_last 41) c.in_ok-last.ensures.cases.0 ∙ without_last-other 41 c.in_ok-last.front.now c.in_ok-last.last.now other)

pub returns : goal.returns
returns c =
    let same : eqb c.in_ok-last.last.now 41 ≡ true = search (rules, tests) in
    sym (ap (without_last 41) c.in_ok-last.ensures.cases.0 ∙ without_last-found 41 c.in_ok-last.front.now c.in_ok-last.last.now same)
