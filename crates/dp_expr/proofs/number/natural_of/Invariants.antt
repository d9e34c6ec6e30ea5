use Rattle.std.proofs.Common.{◌≡◌, drop}
use Rattle.dp_expr.proofs.NumbersLemmas.{read_on}
use Rattle.dp_expr.proofs.number.natural_of.Given as goal

abbrev pub invariant-loop-digit : goal.invariant-loop-digit
invariant-loop-digit l = read_on l.value (drop l.digit-index l.digits) ≡ read_on 0 l.digits
