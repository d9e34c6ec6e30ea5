use Rattle.dp_lookup.specs.FoundEntry.{found_entry}
use Rattle.dp_lookup.proofs.FoundLemmas.{found_entry-least, found_once}
use Rattle.dp_lookup.proofs.look_up.find.Goals as goal

pub returns-clause-value : goal.returns-clause-value
unfolding found_entry
returns-clause-value c = rw (← c.contexts.ensures) c.find_first.ensures

pub returns-clause-found : goal.returns-clause-found
returns-clause-found c = rw (returns-clause-value c) (found_entry-least c.args.plan.now c.args.order.now.contexts c.args.text.now c.args.priority)

pub returns-clause-once : goal.returns-clause-once
returns-clause-once c = found_once c.args.plan.now c.args.order.now.contexts c.args.text.now c.args.priority c.show_entries_known.ensures.apart
