use Rattle.std.proofs.Common.{◌≡◌, true, false, eqb, sym, rules, tests}
use Rattle.dp_files.proofs.DirectivesLemmas.{before_end-ends, before_end-differs}
use Rattle.dp_files.proofs.directive.before_end.Goals as goal

pub returns-then-last-byte : goal.returns-then-last-byte
returns-then-last-byte c =
    let is : eqb c.in-Some.last.now c.args.byte ≡ false = search (rules, tests) in
    sym (before_end-differs c.args.byte c.args.text.now c.in-Some.front.now c.in-Some.last.now c.in-Some.ensures.cases.0 is)

pub returns : goal.returns
returns c =
    let is : eqb c.in-Some.last.now c.args.byte ≡ true = search (rules, tests) in
    sym (before_end-ends c.args.byte c.args.text.now c.in-Some.front.now c.in-Some.last.now c.in-Some.ensures.cases.0 is)
