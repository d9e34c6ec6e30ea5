use Rattle.std.proofs.Common.{◌≡◌, ◌≤◌, length}
use Rattle.dp_expr.specs.Tokens.{tokens_of}
use Rattle.dp_expr.proofs.token.skip_blanks.Given as goal

abbrev pub invariant-loop-first : goal.invariant-loop-first
invariant-loop-first l = (tokens_of l.rest ≡ tokens_of l.text) × (length l.rest ≤ length l.text)

abbrev pub decreases-loop-first : goal.decreases-loop-first
decreases-loop-first l = length l.rest
