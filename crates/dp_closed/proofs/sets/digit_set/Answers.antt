use Rattle.std.proofs.Common.{◌∙◌}
use Rattle.dp_closed.proofs.SetLemmas.{digits-are}
use Rattle.dp_closed.proofs.sets.digit_set.Goals as goal

pub returns : goal.returns
returns c = c.bytes_in.ensures ∙ (λ i byte. digits-are byte i)
