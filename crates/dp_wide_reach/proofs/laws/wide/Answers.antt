use Rattle.dp_wide_reach.proofs.WideRows.{wide-bounded}
use Rattle.dp_wide_reach.proofs.laws.wide.Goals as goal

pub returns : goal.returns
returns c = wide-bounded
