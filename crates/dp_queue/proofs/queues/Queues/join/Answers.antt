use Rattle.std.proofs.Common.{ap, ◌∙◌}
use Rattle.dp_queue.specs.Agents.{is_talking}
use Rattle.dp_queue.specs.Joining.{waits_in}
use Rattle.dp_queue.specs.Queues.{QueuesOf}
use Rattle.dp_queue.proofs.KeptLemmas.{kept-joined}
use Rattle.dp_queue.proofs.queues.Queues.join.Goals as goal

pub invariant_of-self-in-Joined : goal.invariant_of-self-in-Joined
invariant_of-self-in-Joined c =
    let q = c.self.inside in
    kept-joined q.seats c.sit.new.seats q.queues c.sit.new.queues q.agents c.self.invariant c.args.channel c.in-Joined.number
    (ap (λ (x : QueuesOf). waits_in x.queues c.args.channel) c.self.view_is ∙ c.requires.nowhere)
    (ap (λ (x : QueuesOf). is_talking x.agents c.args.channel) c.self.view_is ∙ c.requires.silent)
    c.in-Joined.ensures.within c.in_ok-sit-in-Joined.ensures.ok c.in_ok-sit-in-Joined.ensures.seated c.in_ok-sit-in-Joined.ensures.talks
