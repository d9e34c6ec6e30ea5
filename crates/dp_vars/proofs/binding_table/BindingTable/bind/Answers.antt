-- The changed stack belongs to the name.
use Rattle.std.proofs.Common.{◌∙◌, sym}
use Rattle.dp_vars.specs.steps.Bindings.{with_binding}
use Rattle.dp_vars.specs.Variables.{by_bytes}
use Rattle.dp_vars.proofs.TablesLemmas.{changed-at, changed-new, numbered-at}
use Rattle.dp_vars.proofs.binding_table.BindingTable.bind.Goals as goal

pub returns-in_default-clause-ok : goal.returns-in_default-clause-ok
returns-in_default-clause-ok c =
    c.in_ok-add.ensures.ok
    ∙ changed-new c.args.self.now c.args.name.now (with_binding c.args.depth c.args.value) (sym c.requires ∙ c.in_default.is)

pub invariant_of-self-2 : goal.invariant_of-self-2
invariant_of-self-2 c = numbered-at c.self.inside.entries.items c.in-Some.number c.index_mut-entry.result.now c.entry.inside.name
    c.entry.inside.stack c.entry.view_is c.index_mut-entry.ensures.value
    (by_bytes (λ key. key.items) c.self.inside.numbers.entries) c.bind.new.self c.self.invariant

pub returns-clause-ok : goal.returns-clause-ok
returns-clause-ok c = changed-at c.self.inside.entries.items c.in-Some.number c.index_mut-entry.result.now c.entry.inside.name
    c.entry.inside.stack c.entry.view_is c.index_mut-entry.ensures.value c.args.self.now c.self.view_is c.args.name.now
    (with_binding c.args.depth c.args.value) c.bind.new.self (sym c.requires ∙ c.in-Some.is)
    c.in_ok-bind.ensures.ok
