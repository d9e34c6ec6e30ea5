use Rattle.std.proofs.Common.{◌≡◌, ◌≤◌, ◌+◌, length}
use Rattle.std.specs.List.{filter}
use Rattle.dp_queue.specs.Choices.{is_candidate}
use Rattle.dp_queue.specs.Good.{StandOnce}
use Rattle.dp_queue.specs.Offers.{all_ringing}
use Rattle.dp_queue.proofs.offer.ring_candidates.Given as goal

abbrev pub invariant-loop-member : goal.invariant-loop-member
invariant-loop-member l = record {
  rung : all_ringing l.asked.queue l.asked.channel (filter (is_candidate l.agents l.asked.penalty) l.left) l.agents
      ≡ all_ringing l.asked.queue l.asked.channel (filter (is_candidate l.initial.agents l.asked.penalty) l.members) l.initial.agents;
  counted : l.count + length (filter (is_candidate l.agents l.asked.penalty) l.left)
      ≡ length (filter (is_candidate l.initial.agents l.asked.penalty) l.members);
  once : StandOnce l.left;
  bound : l.count + length l.left ≤ length l.members;
}

abbrev pub decreases-loop-member : goal.decreases-loop-member
decreases-loop-member l = length l.left
