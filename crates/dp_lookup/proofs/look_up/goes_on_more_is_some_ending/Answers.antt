use Rattle.dp_lookup.proofs.FoundLemmas.{goes_on_more-some}
use Rattle.dp_lookup.proofs.look_up.goes_on_more_is_some_ending.Goals as goal

pub returns : goal.returns
returns c = goes_on_more-some
