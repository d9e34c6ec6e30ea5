-- The last name is removed, and its number with it.
use Rattle.std.proofs.Common.{◌≡◌, ◌∙◌, ◌++◌, ◌∷◌, [], ap, subst, sym}
use Rattle.std.specs.Map.{lookup}
use Rattle.std.proofs.lemmas.List.{map-append}
use Rattle.dp_vars.specs.steps.Tables.{AreNumbered, names_of}
use Rattle.dp_vars.specs.Variables.{by_bytes}
use Rattle.dp_vars.proofs.VariablesLemmas.{has_bytes}
use Rattle.dp_vars.proofs.TablesLemmas.{numbered-pop}
use Rattle.dp_vars.proofs.binding_table.BindingTable.pop.Goals as goal

pub invariant_of-self : goal.invariant_of-self
invariant_of-self c =
    let left = c.pop.new.self.items in
    let name = c.bytes.result.now in
    let names : names_of c.self.inside.entries.items ≡ names_of left ++ name ∷ [] =
    ap names_of c.in-Some.ensures.items ∙ map-append (λ e. e.0) left (c.in-Some.entry ∷ [])
    ∙ ap (λ n. names_of left ++ n ∷ []) (sym (ap (λ e. e.0) c.entry.view_is) ∙ sym c.bytes.ensures) in
    let gone = ap (lookup (has_bytes (λ key. key.items) name)) (sym c.remove-number.ensures.entries) ∙ c.remove-number.ensures.updates.1 in
    subst (λ ns. AreNumbered (by_bytes (λ key. key.items) ns) (names_of left)) (sym c.remove-number.ensures.entries)
    (numbered-pop (λ key. key.items) c.self.inside.numbers.entries (names_of left) name
    (subst (AreNumbered (by_bytes (λ key. key.items) c.self.inside.numbers.entries)) names c.self.invariant) gone)
