use Rattle.std.proofs.Common.{ap, sym, subst, ◌∙◌}
use Rattle.dp_vars.specs.Stores.{set}
use Rattle.dp_vars.specs.steps.Tables.{IsBound, store_of}
use Rattle.dp_vars.proofs.SettingLemmas.{set_bound, set_view}
use Rattle.dp_vars.proofs.store.Store.set_after.Goals as goal

pub invariant_of-self-2 : goal.invariant_of-self-2
invariant_of-self-2 g c = subst (λ es. IsBound es c.self.inside.frames.items) (sym c.in_ok-rebind_after.ensures.ok)
    (set_bound c.self.inside.table c.self.inside.frames.items c.args.name.now c.in_ok-value.value c.self.invariant)

pub returns-clause-ok : goal.returns-clause-ok
returns-clause-ok g c =
    ap (λ es. store_of es c.self.inside.frames.items) c.in_ok-rebind_after.ensures.ok
    ∙ set_view c.self.inside.table c.self.inside.frames.items c.args.name.now c.in_ok-value.value c.self.invariant
    ∙ (λ i. set (c.self.view_is i) c.args.name.now (c.in_ok-value.ensures i))
