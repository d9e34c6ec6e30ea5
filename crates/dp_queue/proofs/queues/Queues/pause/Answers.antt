use Rattle.std.proofs.Common.{◌≡◌, Bool, List, None, refl, ap, ◌∙◌, sym, length, map}
use Rattle.std.specs.List.{list_any}
use Rattle.std.specs.Option.{option_copied}
use Rattle.std.proofs.lemmas.List.{length-map}
use Rattle.dp_queue.specs.Agents.{agent_number}
use Rattle.dp_queue.specs.Members.{paused_queue, has_member, pause_row}
use Rattle.dp_queue.specs.Queues.{QueueOf, QueuesOf}
use Rattle.dp_queue.proofs.ChangeLemmas.{length-changed_at}
use Rattle.dp_queue.proofs.WaitingLemmas.{lines, lines-changed_at, lines-map}
use Rattle.dp_queue.proofs.KeptLemmas.{kept-same}
use Rattle.dp_queue.proofs.MemberLemmas.{keeps-paused, members-changed, members-mapped}
use Rattle.dp_queue.proofs.queues.Queues.pause.Goals as goal

pub invariant_of-self : goal.invariant_of-self
invariant_of-self c =
    let q = c.self.inside in
    let change = paused_queue c.number_of-agent.result c.args.is_paused in
    kept-same q.seats q.seats q.queues c.pause_all.new.self q.agents c.self.invariant
    (ap length c.pause_all.ensures ∙ length-map q.queues change)
    (ap lines c.pause_all.ensures ∙ lines-map change q.queues (λ _. refl))
    (members-mapped change q.queues c.pause_all.new.self q.agents
    (keeps-paused c.number_of-agent.result c.args.is_paused) c.pause_all.ensures c.self.invariant.0.members)

pub invariant_of-self-in-Some-number_of : goal.invariant_of-self-in-Some-number_of
invariant_of-self-in-Some-number_of c =
    let q = c.self.inside in
    let change = paused_queue c.number_of-agent.result c.args.is_paused in
    let number = c.in-Some-number_of.number in
    kept-same q.seats q.seats q.queues c.pause.new.self q.agents c.self.invariant
    (ap length c.pause.ensures ∙ length-changed_at change number q.queues)
    (ap lines c.pause.ensures ∙ lines-changed_at change number q.queues (λ _. refl))
    (members-changed change number q.queues c.pause.new.self q.agents
    (keeps-paused c.number_of-agent.result c.args.is_paused) c.pause.ensures c.self.invariant.0.members)

pub returns-in-None : goal.returns-in-None
returns-in-None c =
    let q = c.self.inside in
    let name = c.args.interface.now in
    let known = c.number_of-agent.ensures in
    let paused : c.pause_all.new.self ≡ map (paused_queue (agent_number q.agents name) c.args.is_paused) q.queues =
    c.pause_all.ensures ∙ ap (λ n. map (paused_queue n c.args.is_paused) q.queues) known in
    let there : c.is_member-is_there.result ≡ list_any (has_member (agent_number q.agents name)) q.queues =
    c.is_member-is_there.ensures ∙ (λ i. list_any (has_member (known i)) (c.list.ensures i)) in
    let answer : List QueueOf → Bool → QueuesOf × Bool = λ queues is_there. (record { queues = queues; agents = q.agents; finished = q.finished }, is_there) in
    ap (λ o. pause_row c.args.self.now (option_copied o) name c.args.is_paused) c.in-None.is
    ∙ ap (λ (x : QueuesOf). pause_row x None name c.args.is_paused) (sym c.self.view_is)
    ∙ (λ i. answer (sym paused i) (sym there i))
