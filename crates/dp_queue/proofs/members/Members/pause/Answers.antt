use Rattle.std.proofs.Common.{◌≡◌, List, refl, ap, ◌∙◌, sym, map}
use Rattle.std.specs.List.{position}
use Rattle.dp_queue.specs.Members.{paused_member}
use Rattle.dp_queue.specs.Members.{is_agent}
use Rattle.dp_queue.specs.declared.member.Member.{Member}
use Rattle.dp_queue.proofs.HeldLemmas.{any-nowhere, held-mapped, map-none, map-only, paused-others}
use Rattle.dp_queue.proofs.members.Members.pause.Goals as goal

-- the members after the change of one of them
changed : (c : goal.After-pause_at) → c.pause_at.new.members.items ≡ map (paused_member c.args.agent c.args.is_paused) c.self.inside.list.items
changed c =
    let items = c.self.inside.list.items in
    c.pause_at.ensures
    ∙ map-only (paused_member c.args.agent c.args.is_paused) c.args.agent (paused-others c.args.agent c.args.is_paused) items c.in-Some.place c.self.invariant.0
    (ap (λ (ms : List Member). position (is_agent c.args.agent) ms) c.self.view_is ∙ sym c.in-Some.ensures.place)

pub invariant_of-self : goal.invariant_of-self
invariant_of-self c =
    held-mapped (paused_member c.args.agent c.args.is_paused) (λ m. refl) c.self.inside.ranks c.self.inside.list.items c.pause_at.new.members.items (changed c) c.self.invariant

pub returns-in-Some : goal.returns-in-Some
returns-in-Some c = changed c ∙ ap (map (paused_member c.args.agent c.args.is_paused)) c.self.view_is

pub returns-in_default : goal.returns-in_default
returns-in_default c =
    map-none (paused_member c.args.agent c.args.is_paused) c.args.agent (paused-others c.args.agent c.args.is_paused) c.args.self.now (any-nowhere (is_agent c.args.agent) c.args.self.now c.in_default.ensures.place)
