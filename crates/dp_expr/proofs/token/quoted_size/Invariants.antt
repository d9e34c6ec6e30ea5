use Rattle.std.proofs.Common.{◌≡◌, drop}
use Rattle.dp_expr.specs.Tokens.{quoted_size}
use Rattle.dp_expr.proofs.TokensLemmas.{plus}
use Rattle.dp_expr.proofs.token.quoted_size.Given as goal

abbrev pub invariant-loop-index : goal.invariant-loop-index
invariant-loop-index l = quoted_size l.text ≡ plus l.index (quoted_size (drop l.index l.text))
