use Rattle.dp_diff.proofs.UnchangedLemmas.{differences-same}
use Rattle.dp_diff.proofs.laws.an_unchanged_plan_has_no_differences.Goals as goal

pub returns : goal.returns
returns c = differences-same
