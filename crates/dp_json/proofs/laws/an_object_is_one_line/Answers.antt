use Rattle.dp_json.proofs.LinesLemmas.{object_is_line}
use Rattle.dp_json.proofs.laws.an_object_is_one_line.Goals as goal

pub returns : goal.returns
returns c = object_is_line
