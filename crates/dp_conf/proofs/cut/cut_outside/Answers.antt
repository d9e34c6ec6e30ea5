use Rattle.std.proofs.Common.{refl, arith}
use Rattle.dp_conf.specs.Levels.{cut_outside}
use Rattle.dp_conf.proofs.cut.cut_outside.Goals as goal

pub loop-at-init : goal.loop-at-init
unfolding cut_outside
loop-at-init c = record { bound = omega arith; level = refl; cut = refl }
