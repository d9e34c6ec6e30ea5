use Rattle.dp_pattern.proofs.KeptLemmas.{mask-digits_from_1}
use Rattle.dp_pattern.proofs.class.digits_from_1.Goals as goal

pub returns : goal.returns
returns c = mask-digits_from_1
