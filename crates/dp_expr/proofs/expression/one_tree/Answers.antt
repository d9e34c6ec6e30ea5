use Rattle.dp_expr.specs.Tokens.{tokens_of}
use Rattle.dp_expr.proofs.Readings.{reading_unique}
use Rattle.dp_expr.proofs.expression.one_tree.Goals as goal

pub returns : goal.returns
returns c = λ text first second. reading_unique (tokens_of text) first second
