use Rattle.std.proofs.Common.{◌≡◌, length}
use Rattle.std.specs.List.{list_any}
use Rattle.dp_expr.specs.AsteriskReading.{is_fraction_token}
use Rattle.dp_expr.specs.Tokens.{tokens_of}
use Rattle.dp_expr.proofs.fraction.has_fraction.Given as goal

abbrev pub invariant-loop-token : goal.invariant-loop-token
invariant-loop-token l =
    list_any is_fraction_token (tokens_of l.rest) ≡ list_any is_fraction_token (tokens_of l.text)

abbrev pub decreases-loop-token : goal.decreases-loop-token
decreases-loop-token l = length l.rest
