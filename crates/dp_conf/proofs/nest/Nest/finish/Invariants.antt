use Rattle.std.proofs.Common.{◌≡◌, reverse, vec_len}
use Rattle.dp_conf.specs.steps.Nest.{deepest_in}
use Rattle.dp_conf.proofs.nest.Nest.finish.Given as goal

abbrev pub invariant-loop-last : goal.invariant-loop-last
invariant-loop-last l = deepest_in (reverse l.waiting.items) l.deepest ≡ deepest_in l.fn.self.waiting l.fn.self.deepest

abbrev pub decreases-loop-last : goal.decreases-loop-last
decreases-loop-last l = vec_len l.waiting
