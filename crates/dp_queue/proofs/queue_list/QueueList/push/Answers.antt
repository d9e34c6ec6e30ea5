use Rattle.std.proofs.Common.{◌≡◌, None, List, ◌++◌, ◌∷◌, [], ap, ◌∙◌, if◌then◌else◌}
use Rattle.std.specs.Result.{is_ok}
use Rattle.dp_queue.specs.Queues.{QueueOf, queue_number}
use Rattle.dp_queue.proofs.WordLemmas.{worded-push}
use Rattle.dp_queue.proofs.queue_list.QueueList.push.Goals as goal

pub invariant_of-self-2 : goal.invariant_of-self-2
invariant_of-self-2 c =
    let queues = c.self.inside.list.items in
    let pushed : QueueOf = c.new.result in
    let more : c.push-2.new.self.items ≡ queues ++ pushed ∷ [] =
    c.push-2.ensures.items ∙ ap (λ r. if is_ok r then c.reserve.new.self.items ++ pushed ∷ [] else c.reserve.new.self.items) c.unwrap.ensures
    ∙ ap (λ (qs : List QueueOf). qs ++ pushed ∷ []) c.reserve.ensures.items in
    let absent : queue_number queues c.args.name.now ≡ None = ap (λ (qs : List QueueOf). queue_number qs c.args.name.now) c.self.view_is ∙ c.requires in
    worded-push c.self.inside.places c.push.new.self c.args.name.now queues c.push-2.new.self.items pushed
    (ap (λ (q : QueueOf). q.name) c.new.ensures ∙ c.in_ok-text.ensures) absent
    (c.in_ok-push.ensures.ok ∙ ap (λ hash. c.self.inside.places ++ hash ∷ []) c.word_hash.ensures) more c.self.invariant
