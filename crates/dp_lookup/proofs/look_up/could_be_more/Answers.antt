use Rattle.std.proofs.Common.{ap, ◌∙◌}
use Rattle.std.specs.Prelude.{is_some}
use Rattle.dp_lookup.specs.FoundEntry.{goes_on_more}
use Rattle.dp_lookup.proofs.FoundLemmas.{goes_on_more-some}
use Rattle.dp_lookup.proofs.look_up.could_be_more.Goals as goal

pub returns-clause-value : goal.returns-clause-value
unfolding goes_on_more
returns-clause-value c = rw (← c.contexts.ensures) (c.is_some.ensures ∙ ap is_some c.find_first.ensures)

pub returns-clause-found : goal.returns-clause-found
returns-clause-found c =
    rw (returns-clause-value c) (goes_on_more-some c.args.plan.now c.args.order.now.contexts c.args.text.now c.show_entries_known.ensures.named)
