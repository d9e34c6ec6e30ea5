use Rattle.std.proofs.Common.{◌≡◌, Some, refl, ap, ◌∙◌, sym, length, slice_get, arith}
use Rattle.std.proofs.lemmas.Option.{slice_get_read}
use Rattle.dp_queue.specs.Choices.{with_last}
use Rattle.dp_queue.specs.Offers.{with_choice, all_ringing, chosen_in}
use Rattle.dp_queue.proofs.ChangeLemmas.{changed_at-same}
use Rattle.dp_queue.proofs.offer.ring_at.Goals as goal

-- the requested queue
asked : (c : goal.After-set_last) → slice_get c.args.queues.now c.args.asked.queue ≡ Some c.index-list-asked.result
asked c =
    let list = c.list.result.now in
    ap (λ qs. slice_get qs c.args.asked.queue) (sym c.list.ensures)
    ∙ slice_get_read list (length list) c.args.asked.queue c.index-list-asked.result refl
    (omega (arith, c.requires.queue, ap length c.list.ensures)) c.index-list-asked.is

pub returns-clause-queues : goal.returns-clause-queues
returns-clause-queues c =
    let q = c.index-list-asked.result in
    c.set_last.ensures
    ∙ changed_at-same (with_last c.ring-count.result.1) (with_choice c.args.agents.now c.args.asked.penalty) c.args.asked.queue c.args.queues.now q
    (asked c) (ap (λ l. with_last l q) c.ring-count.ensures.last)

pub returns-clause-agents : goal.returns-clause-agents
returns-clause-agents c =
    c.ring-count.ensures.agents
    ∙ ap (λ o. all_ringing c.args.asked.queue c.args.asked.channel (chosen_in c.args.agents.now c.args.asked.penalty o) c.args.agents.now) (sym (asked c))

pub returns-clause-count : goal.returns-clause-count
returns-clause-count c = c.ring-count.ensures.count ∙ ap (λ o. length (chosen_in c.args.agents.now c.args.asked.penalty o)) (sym (asked c))
