use Rattle.std.proofs.Common.{◌≡◌, rules}
use Rattle.dp_expr.specs.Expression.{expression_value}
use Rattle.dp_vars.specs.Spans.{text_at}
use Rattle.dp_vars.proofs.UnknownLemmas.{with_brackets}
use Rattle.dp_vars.proofs.text_piece.read_brackets.Goals as goal

pub returns : goal.returns
returns c functions sight written =
    let there : c.in_ok-known.known.value.body ≡ c.args.place = search rules in
    let is : c.in_ok-known.known.value.value.items ≡ expression_value (text_at c.args.text.now c.args.place) = search rules in
    with_brackets functions sight c.args.text.now written c.in_ok-known.known.value c.args.place there is
