use Rattle.dp_lookup.proofs.VisitLemmas.{the_visit}
use Rattle.dp_lookup.proofs.order.visit_is_the_visit.Goals as goal

pub returns : goal.returns
returns c = λ plan. the_visit plan
