use Rattle.std.proofs.Common.{◌≡◌, ◌<◌, Some, length, arith, sym}
use Rattle.dp_queue.specs.Joining.{waits_in}
use Rattle.dp_queue.proofs.WaitingLemmas.{waits_in-within}
use Rattle.dp_queue.proofs.KeptLemmas.{seated-waits, seated-rung, kept-left}
use Rattle.dp_queue.proofs.queues.Queues.leave.Goals as goal

pub unseat-requires-clause-within : goal.unseat-requires-clause-within
unseat-requires-clause-within c =
    let q = c.self.inside in
    let waits : waits_in q.queues c.args.channel ≡ Some c.in-Some.seat.queue = seated-waits q.seats q.queues q.agents c.args.channel c.in-Some.seat c.self.invariant.1
    (sym c.in-Some.ensures) in
    let within : c.in-Some.seat.queue < length q.queues = waits_in-within q.queues c.args.channel c.in-Some.seat.queue waits in
    omega (arith, within)

pub invariant_of-self : goal.invariant_of-self
invariant_of-self c =
    let q = c.self.inside in
    let waits : waits_in q.queues c.args.channel ≡ Some c.in-Some.seat.queue = seated-waits q.seats q.queues q.agents c.args.channel c.in-Some.seat c.self.invariant.1
    (sym c.in-Some.ensures) in
    kept-left q.seats c.leave_seat.new.seats q.queues c.unseat.new.queues q.agents c.self.invariant c.args.channel c.in-Some.seat.queue
    c.unseat.new.agents waits c.unseat.ensures.queues c.unseat.ensures.agents c.leave_seat.ensures.seats c.leave_seat.ensures.talks

pub unseat-requires-clause-rung : goal.unseat-requires-clause-rung
unseat-requires-clause-rung c =
    let q = c.self.inside in
    seated-rung q.seats q.queues q.agents c.args.channel c.in-Some.seat c.self.invariant.1 (sym c.in-Some.ensures)

pub unseat-requires-clause-once : goal.unseat-requires-clause-once
unseat-requires-clause-once c = c.self.invariant.0.waits_once c.args.channel
