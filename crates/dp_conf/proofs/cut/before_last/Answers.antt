use Rattle.std.proofs.Common.{◌∙◌, eqb, ◌≡◌, true, false}
use Rattle.std.proofs.Common.{rules, tests}
use Rattle.dp_conf.proofs.CutLemmas.{before_last-found, before_last-passed}
use Rattle.dp_conf.proofs.cut.before_last.Goals as goal

pub returns-then-last-byte : goal.returns-then-last-byte
returns-then-last-byte c =
    let is : eqb c.in-Some.last.now c.args.byte ≡ true = search (rules, tests) in
    before_last-found c.args.byte c.loop-last.left.now c.in-Some.front.now c.in-Some.last.now c.in-Some.ensures.cases.0 is ∙ c.loop-last.invariant

pub loop-last-preserved : goal.loop-last-preserved
loop-last-preserved c =
    let is : eqb c.in-Some.last.now c.args.byte ≡ false = search (rules, tests) in
    before_last-passed c.args.byte c.loop-last.left.now c.in-Some.front.now c.in-Some.last.now c.in-Some.ensures.cases.0 is ∙ c.loop-last.invariant
