use Rattle.dp_json.proofs.Utf8Lemmas.{object_is_utf8}
use Rattle.dp_json.proofs.laws.an_object_is_utf8.Goals as goal

pub returns : goal.returns
returns c = object_is_utf8
