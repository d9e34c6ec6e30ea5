use Rattle.std.proofs.Common.{◌≡◌, ◌-◌, suc, refl, ap, ◌∙◌, sym, arith}
use Rattle.dp_queue.specs.Agents.{state_at}
use Rattle.dp_queue.specs.steps.Seats.{rung_count}
use Rattle.dp_queue.specs.declared.agent.AgentState.TheVariants.{Idle, Ringing}
use Rattle.dp_queue.proofs.GoodLemmas.{ringing-waits}
use Rattle.dp_queue.proofs.KeptLemmas.{ringing-less, seated-some, kept-declined}
use Rattle.dp_queue.proofs.queues.Queues.decline.Goals as goal

pub overflow_sub-rung : goal.overflow_sub-rung
overflow_sub-rung c =
    let q = c.self.inside in
    let a = c.number_of-number.result in
    let is : state_at q.agents a ≡ Ringing c.in-Ringing.queue c.in-Ringing.channel = sym (c.in-Ringing.ensures ∙ ap (λ x. state_at x a) c.list.ensures) in
    omega (
      arith,
      ringing-less q.seats q.queues q.agents a c.in-Ringing.queue c.in-Ringing.channel c.rung_at-rung.result Idle
          c.self.invariant is c.rung_at-rung.ensures refl,
    )

pub put_seat-requires : goal.put_seat-requires
put_seat-requires c =
    let q = c.self.inside in
    let a = c.number_of-number.result in
    seated-some q.seats q.queues q.agents c.in-Ringing.channel c.in-Ringing.queue c.self.invariant.1
    (ringing-waits q.queues q.agents a c.in-Ringing.queue c.in-Ringing.channel c.self.invariant.0
    (sym (c.in-Ringing.ensures ∙ ap (λ x. state_at x a) c.list.ensures)))

pub invariant_of-self : goal.invariant_of-self
invariant_of-self c =
    let q = c.self.inside in
    let a = c.number_of-number.result in
    let channel = c.in-Ringing.channel in
    let is : state_at q.agents a ≡ Ringing c.in-Ringing.queue channel = sym (c.in-Ringing.ensures ∙ ap (λ x. state_at x a) c.list.ensures) in
    let less : c.rung_at-rung.result ≡ suc (rung_count c.set_state.new.self channel) =
    ringing-less q.seats q.queues q.agents a c.in-Ringing.queue channel c.rung_at-rung.result Idle c.self.invariant is c.rung_at-rung.ensures refl
    ∙ ap (λ xs. suc (rung_count xs channel)) (sym c.set_state.ensures) in
    let left : c.rung_at-rung.result - 1 ≡ rung_count c.set_state.new.self channel = omega (arith, less) in
    kept-declined q.seats c.put_seat.new.seats q.queues q.agents c.set_state.new.self a channel c.in-Ringing.queue
    (c.rung_at-rung.result - 1) c.self.invariant is c.set_state.ensures left c.put_seat.ensures.seats c.put_seat.ensures.talks
