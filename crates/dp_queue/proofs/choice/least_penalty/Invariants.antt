use Rattle.std.proofs.Common.{◌≡◌, length, fold}
use Rattle.std.specs.List.{filter}
use Rattle.std.specs.Option.{option_copied}
use Rattle.dp_queue.specs.Choices.{is_eligible, lesser, first_least}
use Rattle.dp_queue.specs.declared.member.Member.{Member}
use Rattle.dp_queue.proofs.choice.least_penalty.Given as goal

abbrev pub invariant-loop-member : goal.invariant-loop-member
invariant-loop-member l = fold (lesser (λ (member : Member). member.penalty)) (option_copied l.best) (filter (is_eligible l.agents) l.left) ≡ first_least (λ (member : Member). member.penalty) (filter (is_eligible l.agents) l.members)

abbrev pub decreases-loop-member : goal.decreases-loop-member
decreases-loop-member l = length l.left
