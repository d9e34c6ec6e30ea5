-- The changed stack belongs to the name.
use Rattle.std.proofs.Common.{◌∙◌, ◌-◌, [], ap, sym, length, take}
use Rattle.dp_vars.specs.steps.Bindings.{with_innermost_value}
use Rattle.dp_vars.specs.Variables.{by_bytes}
use Rattle.dp_vars.proofs.TablesLemmas.{changed-at, changed-new, numbered-at, without-new}
use Rattle.dp_vars.proofs.binding_table.BindingTable.rebind_after.Goals as goal

pub returns-in-Err-clause-err : goal.returns-in-Err-clause-err
returns-in-Err-clause-err g c =
    c.pop.ensures ∙ ap (λ all. take (length all - 1) all) c.in_ok-add.ensures.ok
    ∙ without-new c.args.self.now c.args.name.now (with_innermost_value c.args.value []) (sym c.in_default.ensures)

pub returns-in_default-clause-ok : goal.returns-in_default-clause-ok
returns-in_default-clause-ok g c =
    c.in_ok-add.ensures.ok
    ∙ changed-new c.args.self.now c.args.name.now (with_innermost_value c.args.value) (sym c.in_default.ensures)

pub invariant_of-self-2 : goal.invariant_of-self-2
invariant_of-self-2 g c = numbered-at c.self.inside.entries.items c.in-Some.number c.index_mut-entry.result.now c.entry.inside.name
    c.entry.inside.stack c.entry.view_is c.index_mut-entry.ensures.value
    (by_bytes (λ key. key.items) c.self.inside.numbers.entries) c.rebind_after.new.self c.self.invariant

pub returns-clause-ok : goal.returns-clause-ok
returns-clause-ok g c = changed-at c.self.inside.entries.items c.in-Some.number c.index_mut-entry.result.now c.entry.inside.name
    c.entry.inside.stack c.entry.view_is c.index_mut-entry.ensures.value c.args.self.now c.self.view_is c.args.name.now
    (with_innermost_value c.args.value) c.rebind_after.new.self (sym c.in-Some.ensures)
    c.in_ok-rebind_after.ensures.ok
