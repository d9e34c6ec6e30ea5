use Rattle.std.proofs.Common.{◌≡◌, List, ap, ◌∙◌, sym}
use Rattle.std.specs.List.{position}
use Rattle.dp_queue.specs.Changes.{without}
use Rattle.dp_queue.specs.Members.{is_agent}
use Rattle.dp_queue.specs.declared.member.Member.{Member}
use Rattle.dp_queue.proofs.ChangeLemmas.{remove-at_position, without-no_position}
use Rattle.dp_queue.proofs.HeldLemmas.{held-without}
use Rattle.dp_queue.proofs.members.Members.remove.Goals as goal

-- the remaining members
gone : (c : goal.After-remove-rank) → c.remove-member.new.self.items ≡ without (is_agent c.args.agent) c.self.inside.list.items
gone c =
    c.remove-member.ensures.items
    ∙ remove-at_position (is_agent c.args.agent) c.self.inside.list.items c.in-Some.place
    (c.in-Some.ensures.place ∙ ap (λ (ms : List Member). position (is_agent c.args.agent) ms) (sym c.self.view_is))

pub invariant_of-self : goal.invariant_of-self
invariant_of-self c =
    held-without c.self.inside.ranks c.remove-rank.new.self c.self.inside.list.items c.remove-member.new.self.items c.args.agent (gone c)
    c.remove-rank.ensures.updates.0 c.self.invariant

pub returns-in-Some : goal.returns-in-Some
returns-in-Some c = gone c ∙ ap (without (is_agent c.args.agent)) c.self.view_is

pub returns-in_default : goal.returns-in_default
returns-in_default c = sym (without-no_position (is_agent c.args.agent) c.args.self.now c.in_default.ensures.place)
