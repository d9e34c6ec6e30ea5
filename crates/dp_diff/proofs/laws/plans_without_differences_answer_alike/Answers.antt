use Rattle.dp_diff.proofs.AlikeLemmas.{alike_without, none_if_alike}
use Rattle.dp_diff.proofs.laws.plans_without_differences_answer_alike.Goals as goal

pub returns : goal.returns
returns c = λ before after. (alike_without before after, none_if_alike before after)
