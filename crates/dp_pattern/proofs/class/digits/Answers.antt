use Rattle.dp_pattern.proofs.KeptLemmas.{mask-digits}
use Rattle.dp_pattern.proofs.class.digits.Goals as goal

pub returns : goal.returns
returns c = mask-digits
