-- The stack at the number of the name.
use Rattle.std.proofs.Common.{◌≡◌, ◌∙◌, Some, ap, nat_eq, sym}
use Rattle.std.specs.Cmp.Lexicographic.{pointwise}
use Rattle.std.specs.Map.{lookup}
use Rattle.dp_vars.specs.Stores.{slot}
use Rattle.dp_vars.specs.steps.Tables.{names_of}
use Rattle.dp_vars.proofs.TablesLemmas.{found-at, not_found}
use Rattle.dp_vars.proofs.binding_table.BindingTable.stack.Goals as goal

pub returns-in_default : goal.returns-in_default
returns-in_default c = sym (not_found c.args.self.now c.args.name.now (sym c.in_default.ensures))

pub returns : goal.returns
returns c =
    let es = c.self.inside.entries.items in
    let name = c.args.name.now in
    let known : slot (names_of es) name ≡ Some c.in-Some.number =
    ap (λ entries. slot (names_of entries) name) c.self.view_is ∙ sym c.in-Some.ensures in
    sym (found-at es c.in-Some.number c.index-entry.result.now c.entry.inside.name c.entry.inside.stack c.entry.view_is
    c.index-entry.ensures name known)
    ∙ ap (lookup (pointwise nat_eq name)) c.self.view_is
