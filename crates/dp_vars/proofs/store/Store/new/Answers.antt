use Rattle.std.proofs.Common.{sym, subst}
use Rattle.dp_vars.specs.steps.Tables.{IsBound}
use Rattle.dp_vars.proofs.BoundLemmas.{none_bound}
use Rattle.dp_vars.proofs.store.Store.new.Goals as goal

pub invariant_of-result : goal.invariant_of-result
invariant_of-result g c = subst (λ es. IsBound es c.new-2.result.items) (sym c.new.ensures) (none_bound c.new-2.result.items)
