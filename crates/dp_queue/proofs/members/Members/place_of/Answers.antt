use Rattle.std.proofs.Common.{◌≡◌, false, List, ap, ◌∙◌, sym}
use Rattle.std.specs.List.{list_any, position}
use Rattle.std.specs.Option.{is_some}
use Rattle.dp_queue.specs.Members.{is_agent}
use Rattle.dp_queue.specs.declared.member.Member.{Member}
use Rattle.dp_queue.proofs.HeldLemmas.{position-any}
use Rattle.dp_queue.proofs.members.Members.place_of.Goals as goal

pub returns-in-None-clause-place : goal.returns-in-None-clause-place
returns-in-None-clause-place c =
    let a = c.args.agent in
    let none : list_any (is_agent a) c.self.inside.list.items ≡ false = sym (c.self.invariant.1 a) ∙ ap is_some (sym c.in-None.ensures.value) in
    sym (position-any (is_agent a) c.self.inside.list.items none) ∙ ap (λ (ms : List Member). position (is_agent a) ms) c.self.view_is
