-- The frame has the locals, and without the frame only the names have grown.
use Rattle.std.proofs.Common.{◌≡◌, [], ap, sym, subst, ◌∙◌, length, take}
use Rattle.dp_vars.specs.Stores.{with_frame, with_names, without_frame}
use Rattle.dp_vars.specs.steps.Tables.{HasNamed, IsBound, store_of}
use Rattle.dp_vars.proofs.BoundLemmas.{pushed-with_binding}
use Rattle.dp_vars.proofs.ForgottenLemmas.{has_named}
use Rattle.dp_vars.proofs.NamesLemmas.{length-names}
use Rattle.dp_vars.proofs.PushedLemmas.{of_err, of_ok, pushed_popped, take-with_names}
use Rattle.dp_vars.proofs.SettingLemmas.{pushed_view}
use Rattle.dp_vars.proofs.store.Store.push_frame.Goals as goal

pub invariant_of-self-2 : goal.invariant_of-self-2
invariant_of-self-2 g c = subst (IsBound c.self.inside.table) (sym c.in_ok-push.ensures.items)
    (pushed-with_binding c.self.inside.table c.self.inside.frames.items (record { back = c.args.back; numbers = c.new-numbers.result }) c.self.invariant)

pub returns-then-is_err-clause-err : goal.returns-then-is_err-clause-err
returns-then-is_err-clause-err g c =
    let pushed = ap (store_of c.self.inside.table) c.in_ok-push.ensures.items
    ∙ pushed_view c.self.inside.table c.self.inside.frames.items
    (record { back = c.args.back; numbers = c.new-numbers.result }) c.self.invariant
    ∙ ap (λ store. with_frame store c.args.back []) c.self.view_is in
    let some = of_err c.hold_locals-held.result (sym c.is_err.ensures.value ∙ c.if-is_err.true)
    (c.hold_locals-held.ensures.err c.args.self.now c.args.back pushed) in
    let left : c.pop_frame-back.new.self ≡ record c.args.self.now { names = with_names c.args.self.now.names some.0 } =
    c.pop_frame-back.ensures.left ∙ ap without_frame some.1 ∙ pushed_popped c.args.self.now c.args.back some.0 in
    let known = c.len-known.ensures ∙ sym (length-names (λ e. e.0) c.self.inside.table) ∙ ap (λ store. length store.names) c.self.view_is in
    c.forget.ensures c.args.self.now (subst HasNamed c.self.view_is (has_named c.self.inside.table c.self.inside.frames.items))
    (left ∙ ap (λ ns. record c.args.self.now { names = ns }) (sym (ap (λ store. store.names) left)))
    ((λ i. take (known i) ((left i).names)) ∙ take-with_names some.0 c.args.self.now.names)

pub returns-clause-ok : goal.returns-clause-ok
returns-clause-ok g c =
    let pushed = ap (store_of c.self.inside.table) c.in_ok-push.ensures.items
    ∙ pushed_view c.self.inside.table c.self.inside.frames.items
    (record { back = c.args.back; numbers = c.new-numbers.result }) c.self.invariant
    ∙ ap (λ store. with_frame store c.args.back []) c.self.view_is in
    of_ok c.hold_locals-held.result (sym c.is_err.ensures.value ∙ c.if-is_err.false)
    (c.hold_locals-held.ensures.ok c.args.self.now c.args.back pushed)
