-- There are no bindings at the number of the name.
use Rattle.std.proofs.Common.{◌∙◌, [], sym}
use Rattle.dp_vars.specs.Variables.{by_bytes}
use Rattle.dp_vars.proofs.ClearedLemmas.{cleared-is, cleared-unknown}
use Rattle.dp_vars.proofs.TablesLemmas.{changed-at, numbered-at}
use Rattle.dp_vars.proofs.binding_table.BindingTable.clear.Goals as goal

pub invariant_of-self : goal.invariant_of-self
invariant_of-self c = numbered-at c.self.inside.entries.items c.in-Some.number c.index_mut-entry.result.now c.entry.inside.name
    c.entry.inside.stack c.entry.view_is c.index_mut-entry.ensures.value
    (by_bytes (λ key. key.items) c.self.inside.numbers.entries) c.clear.new.self c.self.invariant

pub returns-in-Some : goal.returns-in-Some
returns-in-Some c = changed-at c.self.inside.entries.items c.in-Some.number c.index_mut-entry.result.now c.entry.inside.name
    c.entry.inside.stack c.entry.view_is c.index_mut-entry.ensures.value c.args.self.now c.self.view_is c.args.name.now
    (λ bs. []) c.clear.new.self (sym c.in-Some.ensures) c.clear.ensures
    ∙ cleared-is c.args.self.now c.args.name.now c.in-Some.number (sym c.in-Some.ensures)

pub returns-in_default : goal.returns-in_default
returns-in_default c = cleared-unknown c.args.self.now c.args.name.now (sym c.in_default.ensures)
