use Rattle.std.proofs.Common.{sym, ap, ◌∙◌, length, arith}
use Rattle.dp_pattern.proofs.DashLemmas.{from_first-begins, from_first-ends, length-from_first}
use Rattle.dp_pattern.proofs.dashes.next_digit.Goals as goal

pub returns-in-None : goal.returns-in-None
returns-in-None c = from_first-ends c.from_first.result.now c.args.text.now c.from_first.ensures c.in-None.ensures.cases

pub returns-in-Some : goal.returns-in-Some
returns-in-Some c = (
  from_first-begins c.args.text.now c.in-Some.after.now c.in-Some.digit.now (sym c.from_first.ensures ∙ c.in-Some.ensures.cases.0),
  omega (arith, length-from_first c.args.text.now, ap length c.from_first.ensures, c.in-Some.ensures.cases.1),
)
