use Rattle.std.proofs.Common.{◌≡◌, List, ap, ◌∙◌, sym, map}
use Rattle.std.specs.List.{position}
use Rattle.dp_queue.specs.Calls.{finished_member}
use Rattle.dp_queue.specs.Members.{is_agent}
use Rattle.dp_queue.specs.declared.member.Member.{Member}
use Rattle.dp_queue.proofs.HeldLemmas.{any-nowhere, held-mapped, map-none, map-only, finished-others, finished-agent}
use Rattle.dp_queue.proofs.members.Members.finish.Goals as goal

-- the members after the change of one of them
changed : (c : goal.After-finish_at) → c.finish_at.new.members.items ≡ map (finished_member c.args.agent c.args.count) c.self.inside.list.items
changed c =
    let items = c.self.inside.list.items in
    c.finish_at.ensures
    ∙ map-only (finished_member c.args.agent c.args.count) c.args.agent (finished-others c.args.agent c.args.count) items c.in-Some.place c.self.invariant.0
    (ap (λ (ms : List Member). position (is_agent c.args.agent) ms) c.self.view_is ∙ sym c.in-Some.ensures.place)

pub invariant_of-self : goal.invariant_of-self
invariant_of-self c =
    held-mapped (finished_member c.args.agent c.args.count) (finished-agent c.args.agent c.args.count) c.self.inside.ranks c.self.inside.list.items c.finish_at.new.members.items (changed c) c.self.invariant

pub returns-in-Some : goal.returns-in-Some
returns-in-Some c = changed c ∙ ap (map (finished_member c.args.agent c.args.count)) c.self.view_is

pub returns-in_default : goal.returns-in_default
returns-in_default c =
    map-none (finished_member c.args.agent c.args.count) c.args.agent (finished-others c.args.agent c.args.count) c.args.self.now (any-nowhere (is_agent c.args.agent) c.args.self.now c.in_default.ensures.place)
