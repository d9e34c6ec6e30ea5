use Rattle.std.proofs.Common.{◌≡◌, ◌<◌, ◌∙◌, ap, sym, subst, length, arith}
use Rattle.std.proofs.lemmas.Grind.{common_steps}
use Rattle.std.specs.Option.{option_map}
use Rattle.dp_vars.specs.steps.Bindings.{bound_below}
use Rattle.dp_vars.specs.Stores.{innermost, popped_setting, without_frame}
use Rattle.dp_vars.specs.steps.Tables.{IsBound, stack_of, store_of, with_stack}
use Rattle.dp_vars.proofs.SettingLemmas.{below_bound, setting_view}
use Rattle.dp_vars.proofs.store.Store.pop_frame_setting.Goals as goal

pub invariant_of-self-2 : goal.invariant_of-self-2
invariant_of-self-2 g c =
    let some : 0 < length c.self.inside.frames.items = grind (arith, common_steps) in
    let many : c.len.result ≡ length c.self.inside.frames.items = omega (arith, c.self.inside.frames.ok) in
    subst (λ es. IsBound es c.self.inside.frames.items)
    (sym (c.in_ok-bind_below.ensures.ok ∙ ap (λ d. with_stack c.self.inside.table c.args.name.now (bound_below d c.in_ok-value.value (stack_of c.self.inside.table c.args.name.now))) many))
    (below_bound c.self.inside.table c.self.inside.frames.items c.args.name.now c.in_ok-value.value c.self.invariant some)

pub returns-clause-ok : goal.returns-clause-ok
returns-clause-ok g c =
    let some : 0 < length c.self.inside.frames.items = grind (arith, common_steps) in
    let many : c.len.result ≡ length c.self.inside.frames.items = omega (arith, c.self.inside.frames.ok) in
    (λ i. popped_setting (sym c.self.view_is i) c.args.name.now (sym c.in_ok-value.ensures i) (innermost (sym c.self.view_is i).frames))
    ∙ setting_view c.self.inside.table c.self.inside.frames.items c.args.name.now c.in_ok-value.value c.self.invariant some
    ∙ ap (λ es. (without_frame (store_of es c.self.inside.frames.items), option_map (λ frame. frame.back) (innermost (store_of es c.self.inside.frames.items).frames)))
    (sym (c.in_ok-bind_below.ensures.ok ∙ ap (λ d. with_stack c.self.inside.table c.args.name.now (bound_below d c.in_ok-value.value (stack_of c.self.inside.table c.args.name.now))) many))
    ∙ (λ i. (sym c.pop_frame.ensures.left i, sym c.pop_frame.ensures.back i))
