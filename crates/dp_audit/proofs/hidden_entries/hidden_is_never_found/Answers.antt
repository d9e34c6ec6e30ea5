use Rattle.dp_audit.proofs.HiddenLemmas.{never_found}
use Rattle.dp_audit.proofs.hidden_entries.hidden_is_never_found.Goals as goal

pub returns : goal.returns
returns c = never_found
