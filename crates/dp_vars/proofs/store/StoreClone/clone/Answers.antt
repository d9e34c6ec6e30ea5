-- The copy has the table and copies of the frames.
use Rattle.std.proofs.Common.{sym, subst, ◌∙◌}
use Rattle.dp_vars.specs.steps.Tables.{IsBound, store_of}
use Rattle.dp_vars.proofs.CopiesLemmas.{IsBound-copies, same_copies}
use Rattle.dp_vars.proofs.store.StoreClone.clone.Goals as goal

pub invariant_of-result : goal.invariant_of-result
invariant_of-result g c = subst (λ es. IsBound es c.in_ok-frames.frames.items) (sym c.in_ok-table.ensures.cases)
    (IsBound-copies g.B.Clone.is_clone c.self.inside.table c.self.inside.frames.items c.in_ok-frames.frames.items
    c.in_ok-frames.ensures.cases.0 c.self.invariant)

pub returns : goal.returns
returns g c = record {
  cases = λ exact.
      (λ i. store_of (c.in_ok-table.ensures.cases i)
      (same_copies g.B.Clone.is_clone c.self.inside.frames.items c.in_ok-frames.frames.items exact c.in_ok-frames.ensures.cases.0 i))
      ∙ c.self.view_is;
}
