use Rattle.std.proofs.Common.{refl, ap, ◌∙◌, sym, length}
use Rattle.dp_queue.specs.Agents.{state_at}
use Rattle.dp_queue.specs.Calls.{finished_queue}
use Rattle.dp_queue.proofs.ChangeLemmas.{length-changed_at}
use Rattle.dp_queue.proofs.WaitingLemmas.{lines, lines-changed_at}
use Rattle.dp_queue.proofs.KeptLemmas.{kept-ended}
use Rattle.dp_queue.proofs.MemberLemmas.{keeps-finished, members-changed}
use Rattle.dp_queue.proofs.queues.Queues.end_talk_of.Goals as goal

pub invariant_of-self : goal.invariant_of-self
invariant_of-self c =
    let q = c.self.inside in
    let a = c.args.number in
    let change = finished_queue a c.one_more-finished.result in
    kept-ended q.seats c.leave_seat.new.seats q.queues c.finish.new.self q.agents c.set_state.new.self a c.in-Talking.channel c.in-Talking.queue
    c.self.invariant (sym (c.in-Talking.ensures ∙ ap (λ x. state_at x a) c.list.ensures)) c.set_state.ensures
    (ap length c.finish.ensures ∙ length-changed_at change c.in-Talking.queue q.queues)
    (ap lines c.finish.ensures ∙ lines-changed_at change c.in-Talking.queue q.queues (λ _. refl))
    (members-changed change c.in-Talking.queue q.queues c.finish.new.self q.agents
    (keeps-finished a c.one_more-finished.result) c.finish.ensures c.self.invariant.0.members) c.leave_seat.ensures.seats c.leave_seat.ensures.talks
