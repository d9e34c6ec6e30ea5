use Rattle.std.proofs.Common.{sym}
use Rattle.dp_diff.proofs.ReachLemmas.{none_reached, reached_alike}
use Rattle.dp_diff.proofs.laws.what_only_one_reaches_is_all_that_differs.Goals as goal

pub returns : goal.returns
returns c = λ before after. (
  λ none. reached_alike before after none.0 none.1,
  λ same. (none_reached before after same, none_reached after before (λ name. sym (same name))),
)
