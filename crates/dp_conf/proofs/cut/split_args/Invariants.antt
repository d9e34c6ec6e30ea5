use Rattle.std.proofs.Common.{◌≡◌, ◌++◌, map}
use Rattle.dp_conf.specs.Blanks.{trim}
use Rattle.dp_conf.specs.Levels.{parts_of}
use Rattle.dp_conf.proofs.LevelLemmas.{parts_left}
use Rattle.dp_conf.proofs.LinesLemmas.{left_len}
use Rattle.dp_conf.proofs.cut.split_args.Given as goal

abbrev pub invariant-loop-rest : goal.invariant-loop-rest
invariant-loop-rest l = map (λ argument. argument.now) l.arguments.items ++ map trim (parts_left l.rest) ≡ map trim (parts_of l.fn.text)

abbrev pub decreases-loop-rest : goal.decreases-loop-rest
decreases-loop-rest l = left_len l.rest
