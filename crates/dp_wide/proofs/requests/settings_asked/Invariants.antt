use Rattle.std.proofs.Common.{◌≡◌, length, map}
use Rattle.dp_wide.specs.Requests.{settings_asked}
use Rattle.dp_wide.proofs.requests.settings_asked.Given as goal

-- the earlier texts ask nothing
abbrev pub invariant-loop-left : goal.invariant-loop-left
invariant-loop-left l = settings_asked (map (λ text. text.now) l.left) ≡ settings_asked (map (λ text. text.now) l.initial.left)

abbrev pub decreases-loop-left : goal.decreases-loop-left
decreases-loop-left l = length l.left
