use Rattle.std.proofs.Common.{◌+◌, take, drop, ap, ◌∙◌}
use Rattle.std.specs.Option.{option_copied}
use Rattle.std.specs.List.{find}
use Rattle.dp_queue.specs.Choices.{is_candidate}
use Rattle.dp_queue.proofs.OfferLemmas.{find-front, find-back}
use Rattle.dp_queue.proofs.choice.next_after.Goals as goal

pub returns-in-Some : goal.returns-in-Some
returns-in-Some c =
    let test = is_candidate c.args.agents.now c.args.penalty in
    find-front test (drop (c.args.place + 1) c.args.members.now) (take (c.args.place + 1) c.args.members.now) c.in-Some.member.now (c.in-Some.ensures ∙ ap (find test) c.split_at.ensures.back)

pub returns-in-None : goal.returns-in-None
returns-in-None c =
    let test = is_candidate c.args.agents.now c.args.penalty in
    find-back test (drop (c.args.place + 1) c.args.members.now) (take (c.args.place + 1) c.args.members.now) (option_copied c.first-in-None.result) (c.in-None.ensures ∙ ap (find test) c.split_at.ensures.back) (c.first-in-None.ensures ∙ ap (find test) c.split_at.ensures.front)
