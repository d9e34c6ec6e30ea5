use Rattle.std.proofs.Common.{◌≡◌, map, length}
use Rattle.dp_wide.specs.Outside.{statuses_among}
use Rattle.dp_wide.proofs.outside.statuses_among.Given as goal

abbrev pub invariant-loop-left : goal.invariant-loop-left
invariant-loop-left l =
    statuses_among (map (λ a. (a.0.now, map (λ status. status.now) a.1.now)) l.left) l.name
    ≡ statuses_among (map (λ a. (a.0.now, map (λ status. status.now) a.1.now)) l.initial.left) l.name

abbrev pub decreases-loop-left : goal.decreases-loop-left
decreases-loop-left l = length l.left
