-- An agent is done with its call.
use Rattle.std.proofs.Common.{◌≡◌, ℕ, List, Option, Some, Ok, sym, ap, ◌∙◌}
use Rattle.dp_plan.specs.Plan.{PlanOf}
use Rattle.dp_queue.specs.Calls.{done_row}
use Rattle.dp_queue.specs.Queues.{QueuesOf}
use Rattle.dp_queue.specs.declared.call.Call.{Call}
use Rattle.dp_machine.specs.Events.{agent_done, agent_event, end_talk, with_queues}
use Rattle.dp_machine.specs.steps.Follows.{Makes}
use Rattle.dp_machine.specs.World.{world_in, world_of}
use Rattle.dp_machine.specs.declared.channel.Channel.{Channel}
use Rattle.dp_machine.specs.declared.exchange.Exchange.{Exchange}
use Rattle.dp_machine.specs.declared.reply.Reply.TheVariants.{Done}
use Rattle.dp_machine.specs.declared.shared_state.SharedState.{SharedState}

-- if the channel of the call leaves its talk, and the dialplan stays the same, and then the queues are those after the end of the call,
-- this is the row of the event
pub done-makes : (before : Exchange) (plan : PlanOf) (channels beyond : List Channel) (agent : List ℕ) (call : Call) (queues : QueuesOf) (ended : Option Call)
    → plan ≡ before.plan → done_row before.shared.queues agent ≡ (queues, ended) → Some call ≡ (done_row before.shared.queues agent).1
    → ((shared after : SharedState) → agent_event (world_of before.plan channels shared) (end_talk after (Some call)) ≡ (world_of before.plan beyond after, Done))
    → Makes (agent_event (world_in before channels) (agent_done before.shared agent)) (world_in before channels)
    (world_of plan beyond (record { globals = before.shared.globals; queues = queues })) (Ok Done)
unfolding agent_done
done-makes before plan channels beyond agent call queues ended stays done talks row = record {
  ok =
      let same : (done_row before.shared.queues agent).0 ≡ queues = ap (λ (d : QueuesOf × Option Call). d.0) done in
      ap (λ (o : Option Call). agent_event (world_in before channels) (end_talk (with_queues before.shared (done_row before.shared.queues agent).0) o)) (sym talks)
      ∙ (row before.shared (with_queues before.shared (done_row before.shared.queues agent).0)
      ∙ (λ i. (world_of (sym stays i) beyond (record { globals = before.shared.globals; queues = same i }), Done)));
  err = tt;
  refused = tt;
}
