use Rattle.std.proofs.Common.{◌∙◌}
use Rattle.dp_lookup.specs.steps.Questions.{asks}
use Rattle.dp_lookup.proofs.RankedLemmas.{first_is_least}
use Rattle.dp_lookup.proofs.look_up.find_in.Goals as goal

pub returns : goal.returns
returns c = c.first_of.ensures ∙ first_is_least c.args.plan.now (asks c.args.question c.args.text.now) c.args.number c.ranked_at.result.now c.ranked_at.ensures
