use Rattle.std.proofs.Common.{◌∙◌, ap, sym, subst, take}
use Rattle.dp_vars.specs.steps.Tables.{IsBound, store_of}
use Rattle.dp_vars.proofs.BoundLemmas.{take-with_binding}
use Rattle.dp_vars.proofs.ForgottenLemmas.{forgotten}
use Rattle.dp_vars.proofs.store.Store.forget.Goals as goal

pub invariant_of-self : goal.invariant_of-self
invariant_of-self g c = subst (λ es. IsBound es c.self.inside.frames.items) (sym c.truncate.ensures)
    (take-with_binding c.args.known c.self.inside.table c.self.inside.frames.items c.self.invariant)

pub returns : goal.returns
returns g c = λ before named is names.
    ap (λ es. store_of es c.self.inside.frames.items) c.truncate.ensures
    ∙ forgotten c.self.inside.table c.args.known c.self.inside.frames.items before named
    (c.self.view_is ∙ is ∙ ap (λ ns. record before { names = ns }) (ap (λ store. store.names) (sym c.self.view_is)))
    (ap (λ store. take c.args.known store.names) c.self.view_is ∙ names)
