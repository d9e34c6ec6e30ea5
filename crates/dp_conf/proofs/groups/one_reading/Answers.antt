use Rattle.dp_conf.proofs.GroupsLemmas.{one_reading}
use Rattle.dp_conf.proofs.groups.one_reading.Goals as goal

pub returns : goal.returns
returns c = one_reading
