use Rattle.std.proofs.Common.{◌∙◌}
use Rattle.dp_pieces.proofs.SetLemmas.{no-digit, none-set}
use Rattle.dp_pieces.proofs.byte_set.ByteSet.digits.Goals as goal

pub loop-digit-init : goal.loop-digit-init
loop-digit-init c = λ b. none-set c.none-set.result c.none-set.ensures b ∙ no-digit b
