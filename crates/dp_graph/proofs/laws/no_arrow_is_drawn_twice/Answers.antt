use Rattle.dp_graph.proofs.OnceLemmas.{arrows_are_distinct}
use Rattle.dp_graph.proofs.laws.no_arrow_is_drawn_twice.Goals as goal

pub returns : goal.returns
returns c = arrows_are_distinct
