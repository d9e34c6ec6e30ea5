use Rattle.dp_files.proofs.OrderLemmas.{keeps_order}
use Rattle.dp_files.proofs.laws.sections_keep_order.Goals as goal

pub returns : goal.returns
returns c = keeps_order
