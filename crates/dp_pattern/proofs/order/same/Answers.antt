use Rattle.std.proofs.Common.{is_eq, ap, ◌∙◌}
use Rattle.std.proofs.lemmas.Bool.Decides.{Decides-at}
use Rattle.dp_pattern.proofs.OrderLemmas.{same_names}
use Rattle.dp_pattern.proofs.order.same.Goals as goal

pub returns : goal.returns
returns c = Decides-at _ _ (c.is_eq.ensures ∙ ap is_eq c.compare.ensures) (same_names c.args.left.now c.args.right.now)
