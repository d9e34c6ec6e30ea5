use Rattle.std.proofs.Common.{◌≡◌, ◌+◌, ◌++◌, ◌≤◌, length, map}
use Rattle.dp_conf.specs.Blanks.{trim}
use Rattle.dp_conf.specs.Levels.{parts_of}
use Rattle.dp_conf.proofs.LevelLemmas.{parts_left}
use Rattle.dp_conf.proofs.LinesLemmas.{left_len}
use Rattle.dp_flow.specs.Jumps.{argument_locals}
use Rattle.dp_flow.proofs.gosub.locals_of.Given as goal

-- the locals so far, and those of the parts that are left, numbered on; each part has a byte of the text behind it
abbrev pub invariant-loop-rest : goal.invariant-loop-rest
invariant-loop-rest l =
    (l.locals.items ++ argument_locals (l.number + 1) (map trim (parts_left l.rest)) ≡ argument_locals 1 (map trim (parts_of l.fn.arguments)))
    × (l.number + left_len l.rest ≤ length l.fn.arguments + 1)

abbrev pub decreases-loop-rest : goal.decreases-loop-rest
decreases-loop-rest l = left_len l.rest
