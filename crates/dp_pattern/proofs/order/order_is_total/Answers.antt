use Rattle.dp_pattern.proofs.OrderLemmas.{orders_names}
use Rattle.dp_pattern.proofs.order.order_is_total.Goals as goal

pub returns : goal.returns
returns c = orders_names
