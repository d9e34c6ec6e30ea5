use Rattle.std.proofs.Common.{ap, sym, subst, ◌∙◌}
use Rattle.dp_vars.specs.Stores.{unset}
use Rattle.dp_vars.specs.steps.Tables.{IsBound, store_of}
use Rattle.dp_vars.proofs.ClearedLemmas.{cleared-bound, cleared-view}
use Rattle.dp_vars.proofs.store.Store.unset.Goals as goal

pub invariant_of-self : goal.invariant_of-self
invariant_of-self g c = subst (λ es. IsBound es c.self.inside.frames.items) (sym c.clear.ensures)
    (cleared-bound c.self.inside.table c.self.inside.frames.items c.args.name.now c.self.invariant)

pub returns : goal.returns
returns g c =
    ap (λ es. store_of es c.self.inside.frames.items) c.clear.ensures
    ∙ cleared-view c.self.inside.table c.self.inside.frames.items c.args.name.now
    ∙ ap (λ store. unset store c.args.name.now) c.self.view_is
