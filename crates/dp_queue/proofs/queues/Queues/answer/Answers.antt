use Rattle.std.proofs.Common.{refl, ◌≡◌, ◌<◌, suc, length, Some, ap, ◌∙◌, sym, arith}
use Rattle.dp_queue.specs.Agents.{all_freed, state_at, with_state_at}
use Rattle.dp_queue.specs.Calls.{answer_row, answer_row_at, call_of}
use Rattle.dp_queue.specs.Joining.{waits_in}
use Rattle.dp_queue.specs.Queues.{QueuesOf}
use Rattle.dp_queue.specs.steps.Seats.{rung_count}
use Rattle.dp_queue.specs.declared.agent.AgentState.TheVariants.{Ringing, Talking}
use Rattle.dp_queue.proofs.AgentLemmas.{all_freed-talking}
use Rattle.dp_queue.proofs.WaitingLemmas.{waits_in-within}
use Rattle.dp_queue.proofs.GoodLemmas.{ringing-waits}
use Rattle.dp_queue.proofs.KeptLemmas.{ringing-less, seated-some, kept-answered}
use Rattle.dp_queue.proofs.queues.Queues.answer.Goals as goal

pub overflow_sub-rung : goal.overflow_sub-rung
overflow_sub-rung c =
    let q = c.self.inside in
    let a = c.number_of-number.result in
    let channel = c.in-Ringing.channel in
    let is : state_at q.agents a ≡ Ringing c.in-Ringing.queue channel = sym (c.in-Ringing.ensures ∙ ap (λ x. state_at x a) c.list.ensures) in
    omega (
      arith,
      ringing-less q.seats q.queues q.agents a c.in-Ringing.queue channel c.rung_at-rung.result (Talking c.in-Ringing.queue channel)
          c.self.invariant is c.rung_at-rung.ensures refl,
    )

pub unseat-requires-clause-within : goal.unseat-requires-clause-within
unseat-requires-clause-within c =
    let q = c.self.inside in
    let a = c.number_of-number.result in
    let is : state_at q.agents a ≡ Ringing c.in-Ringing.queue c.in-Ringing.channel = sym (c.in-Ringing.ensures ∙ ap (λ x. state_at x a) c.list.ensures) in
    let waits : waits_in q.queues c.in-Ringing.channel ≡ Some c.in-Ringing.queue = ringing-waits q.queues q.agents a c.in-Ringing.queue c.in-Ringing.channel c.self.invariant.0 is in
    let within : c.in-Ringing.queue < length q.queues = waits_in-within q.queues c.in-Ringing.channel c.in-Ringing.queue waits in
    omega (arith, within)

pub unseat-requires-clause-once : goal.unseat-requires-clause-once
unseat-requires-clause-once c = c.self.invariant.0.waits_once c.in-Ringing.channel

pub unseat-requires-clause-rung : goal.unseat-requires-clause-rung
unseat-requires-clause-rung c =
    let q = c.self.inside in
    let a = c.number_of-number.result in
    let channel = c.in-Ringing.channel in
    let is : state_at q.agents a ≡ Ringing c.in-Ringing.queue channel = sym (c.in-Ringing.ensures ∙ ap (λ x. state_at x a) c.list.ensures) in
    let less : c.rung_at-rung.result ≡ suc (rung_count c.set_state.new.self channel) =
    ringing-less q.seats q.queues q.agents a c.in-Ringing.queue channel c.rung_at-rung.result (Talking c.in-Ringing.queue channel)
    c.self.invariant is c.rung_at-rung.ensures refl
    ∙ ap (λ xs. suc (rung_count xs channel)) (sym c.set_state.ensures) in
    omega (arith, less)

-- the agents after both changes
freed : (c : goal.After-put_talk) → c.unseat.new.agents
    ≡ with_state_at c.number_of-number.result (Talking c.in-Ringing.queue c.in-Ringing.channel) (all_freed c.in-Ringing.channel c.self.inside.agents)
freed c =
    c.unseat.ensures.agents ∙ ap (all_freed c.in-Ringing.channel) c.set_state.ensures
    ∙ all_freed-talking c.in-Ringing.channel c.number_of-number.result c.in-Ringing.queue c.in-Ringing.channel c.self.inside.agents

pub invariant_of-self : goal.invariant_of-self
invariant_of-self c =
    let q = c.self.inside in
    let a = c.number_of-number.result in
    kept-answered q.seats c.put_talk.new.seats q.queues c.unseat.new.queues q.agents (all_freed c.in-Ringing.channel q.agents) c.unseat.new.agents
    a c.in-Ringing.channel c.in-Ringing.queue c.self.invariant (sym (c.in-Ringing.ensures ∙ ap (λ x. state_at x a) c.list.ensures))
    c.unseat.ensures.queues refl (freed c) c.put_talk.ensures.seats c.put_talk.ensures.talks

pub returns-in-Ringing : goal.returns-in-Ringing
returns-in-Ringing c =
    let q = c.self.inside in
    let name = c.args.agent.now in
    let a = c.number_of-number.result in
    let before : QueuesOf = record { queues = q.queues; agents = q.agents; finished = q.finished } in
    let is : state_at q.agents a ≡ Ringing c.in-Ringing.queue c.in-Ringing.channel = sym (c.in-Ringing.ensures ∙ ap (λ x. state_at x a) c.list.ensures) in
    ap (λ (x : QueuesOf). answer_row x name) (sym c.self.view_is)
    ∙ ap (λ n. answer_row_at before n (state_at q.agents n)) (sym c.number_of-number.ensures)
    ∙ ap (answer_row_at before a) is
    ∙ (λ i. (
      record { queues = sym c.unseat.ensures.queues i; agents = sym (freed c) i; finished = q.finished },
      Some (call_of c.in-Ringing.queue a c.in-Ringing.channel),
    ))

pub put_talk-requires : goal.put_talk-requires
put_talk-requires c =
    let q = c.self.inside in
    let a = c.number_of-number.result in
    seated-some q.seats q.queues q.agents c.in-Ringing.channel c.in-Ringing.queue c.self.invariant.1
    (ringing-waits q.queues q.agents a c.in-Ringing.queue c.in-Ringing.channel c.self.invariant.0
    (sym (c.in-Ringing.ensures ∙ ap (λ x. state_at x a) c.list.ensures)))
