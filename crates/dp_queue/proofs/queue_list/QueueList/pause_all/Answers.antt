use Rattle.std.proofs.Common.{refl, ap, ◌∙◌}
use Rattle.dp_queue.specs.Members.{paused_queue}
use Rattle.dp_queue.specs.steps.Places.{words_of}
use Rattle.dp_queue.proofs.WordLemmas.{worded-kept, words-mapped}
use Rattle.dp_queue.proofs.queue_list.QueueList.pause_all.Goals as goal

pub invariant_of-self : goal.invariant_of-self
invariant_of-self c =
    let queues = c.self.inside.list.items in
    worded-kept c.self.inside.places queues c.pause_all.new.queues.items
    (ap words_of c.pause_all.ensures ∙ words-mapped (paused_queue c.args.agent c.args.is_paused) queues (λ q. refl)) c.self.invariant
