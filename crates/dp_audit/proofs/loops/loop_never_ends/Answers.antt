use Rattle.dp_audit.proofs.RunsLemmas.{never_ends}
use Rattle.dp_audit.proofs.loops.loop_never_ends.Goals as goal

pub returns : goal.returns
returns c = never_ends
