-- The changed stack is at the number.
use Rattle.std.proofs.Common.{◌≤◌, ap, sym, length, arith}
use Rattle.dp_vars.specs.Variables.{by_bytes}
use Rattle.dp_vars.proofs.TablesLemmas.{numbered-at, unbound-at, unbound_at-beyond}
use Rattle.dp_vars.proofs.binding_table.BindingTable.unbind.Goals as goal

pub invariant_of-self : goal.invariant_of-self
invariant_of-self c = numbered-at c.self.inside.entries.items c.args.number c.index_mut-entry.result.now c.entry.inside.name
    c.entry.inside.stack c.entry.view_is c.index_mut-entry.ensures.value
    (by_bytes (λ key. key.items) c.self.inside.numbers.entries) c.unbind.new.self c.self.invariant

pub returns-then-number-len : goal.returns-then-number-len
returns-then-number-len c = unbound-at c.self.inside.entries.items c.args.number c.index_mut-entry.result.now c.entry.inside.name
    c.entry.inside.stack c.entry.view_is c.index_mut-entry.ensures.value c.args.self.now c.self.view_is c.args.depth c.unbind.new.self
    c.unbind.ensures

pub returns-else-number-len : goal.returns-else-number-len
returns-else-number-len c =
    let beyond : length c.args.self.now ≤ c.args.number = omega (arith, ap length c.self.view_is, c.len.ensures, c.if-number-len.false) in
    sym (unbound_at-beyond c.args.depth c.args.self.now c.args.number beyond)
