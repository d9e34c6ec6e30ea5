use Rattle.std.proofs.Common.{◌≡◌}
use Rattle.dp_conf.specs.Levels.{parts_of}
use Rattle.dp_conf.proofs.LinesLemmas.{left_len}
use Rattle.dp_wide.specs.Requests.{parts_asked}
use Rattle.dp_wide.specs.steps.PartsLeft.{parts_left}
use Rattle.dp_wide.proofs.requests.parts_asked.Given as goal

-- the earlier names ask nothing
abbrev pub invariant-loop-rest : goal.invariant-loop-rest
invariant-loop-rest l = parts_asked (parts_left l.rest) ≡ parts_asked (parts_of l.fn.names)

abbrev pub decreases-loop-rest : goal.decreases-loop-rest
decreases-loop-rest l = left_len l.rest
