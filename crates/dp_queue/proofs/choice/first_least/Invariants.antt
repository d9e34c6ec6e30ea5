use Rattle.std.proofs.Common.{◌≡◌, length, fold}
use Rattle.std.specs.List.{filter}
use Rattle.std.specs.Option.{option_copied}
use Rattle.dp_queue.specs.Choices.{is_candidate, rank, lesser, first_least}
use Rattle.dp_queue.proofs.choice.first_least.Given as goal

abbrev pub invariant-loop-member : goal.invariant-loop-member
invariant-loop-member l = fold (lesser (rank l.key)) (option_copied l.best) (filter (is_candidate l.agents l.penalty) l.left) ≡ first_least (rank l.key) (filter (is_candidate l.agents l.penalty) l.members)

abbrev pub decreases-loop-member : goal.decreases-loop-member
decreases-loop-member l = length l.left
