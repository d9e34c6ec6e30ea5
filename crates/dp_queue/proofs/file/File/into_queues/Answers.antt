use Rattle.std.proofs.Common.{ap, sym, subst}
use Rattle.dp_queue.specs.File.{FileOf}
use Rattle.dp_queue.specs.Queues.{QueuesOf}
use Rattle.dp_queue.specs.Rest.{IsAtRest}
use Rattle.dp_queue.proofs.RestLemmas.{linked-at_rest, seated-at_rest, found-at_rest}
use Rattle.dp_queue.proofs.file.File.into_queues.Goals as goal

pub invariant_of-result : goal.invariant_of-result
invariant_of-result c =
    let q : QueuesOf = record { queues = c.self.inside.queues; agents = c.self.inside.agents; finished = 0 } in
    let rest : IsAtRest q = subst IsAtRest (ap (λ (file : FileOf). file.made) (sym c.self.view_is)) c.requires in
    (linked-at_rest q rest c.self.invariant.1, seated-at_rest c.new.result q c.new.ensures.empty rest, found-at_rest c.new.result q rest)
