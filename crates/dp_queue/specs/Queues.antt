-- The queues of an exchange: their settings, members and waiting calls, the agents, and the count of finished calls.
use Rattle.std.specs.Prelude.{ℕ, List, [], Option}
use Rattle.std.specs.List.{position}
use Rattle.dp_conf.specs.Words.{same_word}
use Rattle.dp_queue.specs.declared.agent.Agent.{Agent}
use Rattle.dp_queue.specs.declared.member.Member.{Member}
use Rattle.dp_queue.specs.declared.settings.Settings.{Settings}

-- a queue: its name as written in its section, its settings, its members in the order in which they came, the channels
-- that wait, in order, and the number of the agent that `rrmemory` chose last
pub record QueueOf : Type 0 where
  pub name : List ℕ
  pub settings : Settings
  pub members : List Member
  pub waiting : List ℕ
  pub last : Option ℕ

-- the queues in file order, the agents in the order in which they were first named, and the number of finished calls
pub record QueuesOf : Type 0 where
  pub queues : List QueueOf
  pub agents : List Agent
  pub finished : ℕ

-- no queues and no agents
abbrev pub no_queues : QueuesOf
no_queues = record { queues = []; agents = []; finished = 0 }

-- the number of the queue with a name, in any ASCII case
abbrev pub queue_number : List QueueOf → List ℕ → Option ℕ
queue_number queues name = position (λ queue. same_word queue.name name) queues
