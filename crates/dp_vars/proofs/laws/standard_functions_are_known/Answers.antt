use Rattle.dp_vars.proofs.KnownLemmas.{standard-known}
use Rattle.dp_vars.proofs.laws.standard_functions_are_known.Goals as goal

pub returns : goal.returns
returns c = λ sight text. standard-known sight text
