use Rattle.dp_wide_runs.proofs.OnwardLemmas.{each_goes_on}
use Rattle.dp_wide_runs.proofs.laws.runs_go_on.Goals as goal

pub returns : goal.returns
returns c = λ name arguments cell is. each_goes_on name is arguments cell
