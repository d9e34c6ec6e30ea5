use Rattle.std.proofs.Common.{◌≡◌, ◌+◌, drop}
use Rattle.dp_expr.specs.Tokens.{word_size}
use Rattle.dp_expr.proofs.token.word_size.Given as goal

abbrev pub invariant-loop-index : goal.invariant-loop-index
invariant-loop-index l = word_size l.text ≡ l.index + word_size (drop l.index l.text)
