use Rattle.dp_lookup.proofs.FoundLemmas.{found_label-least, label_once}
use Rattle.dp_lookup.proofs.look_up.found_label_is_of_the_least.Goals as goal

pub returns-clause-found : goal.returns-clause-found
returns-clause-found c = found_label-least

pub returns-clause-once : goal.returns-clause-once
returns-clause-once c = label_once
