use Rattle.dp_lookup.proofs.FoundLemmas.{found_entry-least, found_once}
use Rattle.dp_lookup.proofs.look_up.found_entry_is_the_least.Goals as goal

pub returns-clause-found : goal.returns-clause-found
returns-clause-found c = found_entry-least

pub returns-clause-once : goal.returns-clause-once
returns-clause-once c = found_once
