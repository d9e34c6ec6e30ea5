use Rattle.std.proofs.Common.{◌≡◌, Some, List, refl, ap, ◌∙◌, sym, length, slice_get, arith}
use Rattle.std.proofs.lemmas.Option.{slice_get_read}
use Rattle.dp_queue.specs.Members.{is_agent}
use Rattle.dp_queue.specs.declared.member.Member.{Member}
use Rattle.dp_queue.proofs.HeldLemmas.{any-nowhere, find-any, find-position}
use Rattle.dp_queue.proofs.members.Members.find.Goals as goal

pub returns-in-None : goal.returns-in-None
returns-in-None c =
    let members = c.args.self.now in
    sym (find-any (is_agent c.args.agent) members (any-nowhere (is_agent c.args.agent) members c.in-None.ensures.place))

pub returns-in-Some : goal.returns-in-Some
returns-in-Some c =
    let members = c.args.self.now in
    let items = c.self.inside.list.items in
    let place = c.in-Some.place in
    let here : slice_get items place ≡ Some c.index.result.now =
    slice_get_read items (length items) place c.index.result.now refl (omega (arith, c.in-Some.ensures.within, ap length c.self.view_is)) c.index.ensures in
    sym here ∙ ap (λ (ms : List Member). slice_get ms place) c.self.view_is ∙ find-position (is_agent c.args.agent) members place (sym c.in-Some.ensures.place)
