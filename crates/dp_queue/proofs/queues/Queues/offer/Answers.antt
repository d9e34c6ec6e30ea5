use Rattle.std.proofs.Common.{◌≡◌, ◌<◌, Some, ap, ◌∙◌, sym, length, arith}
use Rattle.std.proofs.lemmas.Option.{slice_get_within}
use Rattle.dp_queue.specs.Joining.{waits_in}
use Rattle.dp_queue.specs.Offers.{asked_at}
use Rattle.dp_queue.specs.Queues.{queue_number}
use Rattle.dp_queue.proofs.KeptLemmas.{seated-some}
use Rattle.dp_queue.proofs.OfferLemmas.{IsAsked, asked-facts, asked-waits, kept-offered}
use Rattle.dp_queue.proofs.queues.Queues.offer.Goals as goal

pub ring_at-rung-requires-clause-queue : goal.ring_at-rung-requires-clause-queue
ring_at-rung-requires-clause-queue c =
    let q = c.self.inside in
    let asked = c.in-Ok.asked in
    let is_asked : IsAsked q.queues q.agents asked = asked-facts q.queues q.agents (queue_number q.queues c.args.queue.now) asked
    (sym (c.in-Ok.ensures ∙ ap (λ x. asked_at q.queues x (queue_number q.queues c.args.queue.now)) c.list.ensures)) in
    let within : asked.queue < length q.queues = slice_get_within q.queues asked.queue is_asked.queue is_asked.at in
    omega (arith, within)

pub ring_at-rung-requires-clause-once : goal.ring_at-rung-requires-clause-once
ring_at-rung-requires-clause-once c = c.self.invariant.0.members.stand_once

pub put_seat-requires : goal.put_seat-requires
put_seat-requires c =
    let q = c.self.inside in
    let asked = c.in-Ok.asked in
    let is_asked : IsAsked q.queues q.agents asked = asked-facts q.queues q.agents (queue_number q.queues c.args.queue.now) asked
    (sym (c.in-Ok.ensures ∙ ap (λ x. asked_at q.queues x (queue_number q.queues c.args.queue.now)) c.list.ensures)) in
    let waits : waits_in q.queues asked.channel ≡ Some asked.queue = asked-waits q.queues q.agents q.agents asked c.self.invariant.0 is_asked in
    seated-some q.seats q.queues q.agents asked.channel asked.queue c.self.invariant.1 waits

pub invariant_of-self : goal.invariant_of-self
invariant_of-self c =
    let q = c.self.inside in
    let asked = c.in-Ok.asked in
    let is_asked : IsAsked q.queues q.agents asked = asked-facts q.queues q.agents (queue_number q.queues c.args.queue.now) asked
    (sym (c.in-Ok.ensures ∙ ap (λ x. asked_at q.queues x (queue_number q.queues c.args.queue.now)) c.list.ensures)) in
    kept-offered q.seats c.put_seat.new.seats q.queues c.ring_at-rung.new.queues q.agents c.ring_at-rung.new.agents asked
    c.ring_at-rung.result c.self.invariant is_asked c.ring_at-rung.ensures.agents c.ring_at-rung.ensures.count
    c.ring_at-rung.ensures.queues c.put_seat.ensures.seats c.put_seat.ensures.talks
