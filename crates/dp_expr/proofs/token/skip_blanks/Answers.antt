use Rattle.std.proofs.Common.{ap, sym, ◌∙◌, arith}
use Rattle.dp_expr.specs.Tokens.{tokens_of}
use Rattle.dp_expr.proofs.TokensLemmas.{tokens_of-blank}
use Rattle.dp_expr.proofs.token.skip_blanks.Goals as goal

pub loop-first-preserved : goal.loop-first-preserved
loop-first-preserved c =
    let cases = c.in-Some.ensures.cases.0 in
    let blank = tokens_of-blank c.in-Some.first.now c.in-Some.others.now (sym c.is_blank.ensures ∙ c.if-not-is_blank.false) in
    (sym blank ∙ sym (ap tokens_of cases) ∙ c.loop-first.invariant.0, omega (arith, c.in-Some.ensures.cases.1))
