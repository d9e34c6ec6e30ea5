use Rattle.std.proofs.Common.{◌∙◌}
use Rattle.dp_graph.proofs.ArrowLemmas.{insert_arrow}
use Rattle.dp_graph.proofs.arrow.insert.Goals as goal

pub returns : goal.returns
returns c = c.in_ok-insert.ensures.keys ∙ insert_arrow c.args.arrows.now.keys c.args.arrow
