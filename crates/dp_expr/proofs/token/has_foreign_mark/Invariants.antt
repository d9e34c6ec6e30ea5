use Rattle.std.proofs.Common.{◌≡◌, length}
use Rattle.dp_expr.specs.AsteriskReading.{has_foreign_mark}
use Rattle.dp_expr.proofs.token.has_foreign_mark.Given as goal

abbrev pub invariant-loop-first : goal.invariant-loop-first
invariant-loop-first l = has_foreign_mark l.rest ≡ has_foreign_mark l.text

abbrev pub decreases-loop-first : goal.decreases-loop-first
decreases-loop-first l = length l.rest
