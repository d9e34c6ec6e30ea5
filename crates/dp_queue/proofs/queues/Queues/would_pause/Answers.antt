-- The member of the queue that is found by the name is the requested one.
use Rattle.std.proofs.Common.{ap, sym, ◌∙◌, Some}
use Rattle.std.specs.Option.{option_copied}
use Rattle.dp_queue.specs.Agents.{agent_number}
use Rattle.dp_queue.specs.Members.{is_member_at, pause_row, pause_row_at}
use Rattle.dp_queue.proofs.queues.Queues.would_pause.Goals as goal

pub returns-in-Some-number_of : goal.returns-in-Some-number_of
returns-in-Some-number_of c = λ is_paused.
    let q = c.self.inside in
    c.is_member_at.ensures
    ∙ ap (λ queues. is_member_at queues c.in-Some-number_of.number c.number_of-agent.result) c.list-in-Some-number_of.ensures
    ∙ ap (is_member_at q.queues c.in-Some-number_of.number)
    c.number_of-agent.ensures
    ∙ ap (λ o. (pause_row_at (record { queues = q.queues; agents = q.agents; finished = q.finished }) o (agent_number q.agents c.args.interface.now) is_paused).1)
    c.in-Some-number_of.ensures.number
    ∙ ap (λ old. (pause_row old (Some c.in-Some.name.now) c.args.interface.now is_paused).1) c.self.view_is
    ∙ ap (λ o. (pause_row c.args.self.now (option_copied o) c.args.interface.now is_paused).1) (sym c.in-Some.is)
