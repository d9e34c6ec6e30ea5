use Rattle.dp_wide.proofs.NestedLemmas.{within-kept}
use Rattle.dp_wide.proofs.laws.known_calls_are_kept.Goals as goal

pub returns : goal.returns
returns c = λ fewer more e. within-kept fewer more e
