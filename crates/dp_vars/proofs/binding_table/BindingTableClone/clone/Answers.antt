-- The copy has the same entries, and its names have the same numbers.
use Rattle.std.proofs.Common.{◌∙◌, sym, subst}
use Rattle.std.proofs.lemmas.List.Elements.{same_from_all_zip}
use Rattle.dp_vars.specs.Variables.{by_bytes}
use Rattle.dp_vars.specs.steps.Tables.{AreNumbered, names_of}
use Rattle.dp_vars.proofs.VariablesLemmas.{by_bytes-copies, same_bytes}
use Rattle.dp_vars.proofs.binding_table.BindingTableClone.clone.Goals as goal

pub invariant_of-result : goal.invariant_of-result
invariant_of-result c =
    let entries = same_from_all_zip _ c.self.inside.entries.items c.in_ok-entries.entries.items c.in_ok-entries.ensures.cases.0 (λ e f copied. copied) in
    let numbers = by_bytes-copies (λ name. name.items) _ (λ key copy copied. same_bytes key.items copy.items copied.0)
    c.self.inside.numbers.entries c.in_ok-numbers.numbers.entries c.in_ok-numbers.ensures.cases in
    subst (λ es. AreNumbered (by_bytes (λ name. name.items) c.in_ok-numbers.numbers.entries) (names_of es)) (sym entries)
    (subst (λ ns. AreNumbered ns (names_of c.self.inside.entries.items)) (sym numbers) c.self.invariant)

pub returns : goal.returns
returns c = record {
  cases =
      same_from_all_zip _ c.self.inside.entries.items c.in_ok-entries.entries.items c.in_ok-entries.ensures.cases.0 (λ e f copied. copied)
      ∙ c.self.view_is;
}
