use Rattle.dp_wide_runs.proofs.GivenLemmas.{meetings_known}
use Rattle.dp_wide_runs.proofs.laws.steps_are_known.Goals as goal

pub returns : goal.returns
returns c = λ at script. meetings_known at script
