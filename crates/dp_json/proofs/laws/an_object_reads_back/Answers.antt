use Rattle.dp_json.proofs.ReadingLemmas.{object_read}
use Rattle.dp_json.proofs.laws.an_object_reads_back.Goals as goal

pub returns : goal.returns
returns c = object_read
