-- The copy has copies of the entries.
use Rattle.std.proofs.Common.{◌∙◌, ap}
use Rattle.std.specs.FinMap.{from_entries}
use Rattle.dp_vars.proofs.VariablesLemmas.{by_bytes-copies, same_bytes}
use Rattle.dp_vars.proofs.variables.VariablesClone.clone.Goals as goal

pub returns : goal.returns
returns c = record {
  cases =
      ap (λ es. from_entries es)
      (by_bytes-copies (λ name. name.items) _ (λ key copy copied. same_bytes key.items copy.items copied.0)
      c.self.inside.held.entries c.in_ok-held.held.entries c.in_ok-held.ensures.cases)
      ∙ c.self.view_is;
}
