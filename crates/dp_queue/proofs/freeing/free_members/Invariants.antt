use Rattle.std.proofs.Common.{◌≡◌}
use Rattle.dp_queue.specs.Agents.{all_freed}
use Rattle.dp_queue.specs.steps.Seats.{rung_count}
use Rattle.dp_queue.proofs.freeing.free_members.Given as goal

abbrev pub invariant-loop-member : goal.invariant-loop-member
invariant-loop-member l = record {
  freed : all_freed l.channel l.agents ≡ all_freed l.channel l.initial.agents;
  counted : l.left ≡ rung_count l.agents l.channel;
}
