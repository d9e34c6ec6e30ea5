-- Queues at rest.
use Rattle.std.specs.Prelude.{◌≡◌, []}
use Rattle.std.specs.List.{All}
use Rattle.dp_queue.specs.Queues.{QueuesOf}
use Rattle.dp_queue.specs.declared.agent.AgentState.TheVariants.{Idle}

-- no call waits in a queue, and each agent is idle
pub record IsAtRest (q : QueuesOf) : Type 0 where
  pub nobody_waits : All (λ queue. queue.waiting ≡ []) q.queues
  pub all_idle : All (λ agent. agent.state ≡ Idle) q.agents
