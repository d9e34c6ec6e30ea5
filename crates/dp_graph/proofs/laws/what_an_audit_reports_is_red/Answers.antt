use Rattle.dp_graph.proofs.MissingLemmas.{red_if_missing}
use Rattle.dp_graph.proofs.laws.what_an_audit_reports_is_red.Goals as goal

pub returns : goal.returns
returns c = red_if_missing
