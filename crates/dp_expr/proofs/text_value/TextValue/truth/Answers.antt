use Rattle.std.proofs.Common.{sym, ap, ◌∙◌}
use Rattle.dp_expr.specs.Values.{truth}
use Rattle.dp_expr.proofs.TextsLemmas.{decimal_one, decimal_zero}
use Rattle.dp_expr.proofs.text_value.TextValue.truth.Goals as goal

pub returns-then-holds : goal.returns-then-holds
returns-then-holds c = decimal_one ∙ ap truth (sym c.if-holds.true)

pub returns-else-holds : goal.returns-else-holds
returns-else-holds c = decimal_zero ∙ ap truth (sym c.if-holds.false)
