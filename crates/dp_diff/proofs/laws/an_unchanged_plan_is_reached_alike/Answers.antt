use Rattle.std.proofs.Common.{refl}
use Rattle.dp_diff.proofs.ReachLemmas.{none_reached}
use Rattle.dp_diff.proofs.laws.an_unchanged_plan_is_reached_alike.Goals as goal

pub returns : goal.returns
returns c = λ reach. none_reached reach reach (λ name. refl)
