use Rattle.std.proofs.Common.{sym, subst}
use Rattle.dp_expr.specs.Expression.{IsValue}
use Rattle.dp_expr.proofs.Readings.{IsValue-expression_value, value_unique}
use Rattle.dp_expr.proofs.expression.one_value.Goals as goal

pub returns : goal.returns
returns c = λ text bytes.
    (value_unique text bytes, λ e. subst (IsValue text) (sym e) (IsValue-expression_value text))
