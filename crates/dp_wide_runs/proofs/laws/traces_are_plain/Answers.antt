use Rattle.dp_wide_runs.proofs.GivenLemmas.{trace_without_calls}
use Rattle.dp_wide_runs.proofs.laws.traces_are_plain.Goals as goal

pub returns : goal.returns
returns c = λ w script none. trace_without_calls w script none
