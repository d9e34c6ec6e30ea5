-- A new name goes after the others, with their count as its number.
use Rattle.std.proofs.Common.{◌≡◌, [], List, Vec, Global, ℕ, length, arith}
use Rattle.dp_vars.specs.steps.Bindings.{with_binding}
use Rattle.dp_vars.proofs.TablesLemmas.{added}
use Rattle.dp_vars.proofs.binding_table.BindingTable.add.Goals as goal

abbrev bytes : Vec ℕ Global → List ℕ
bytes key = key.items

pub invariant_of-self-2 : goal.invariant_of-self-2
invariant_of-self-2 c =
    let many : c.len.result ≡ length c.reserve.new.self.items = omega (arith, c.len.ensures) in
    (added bytes c.self.inside.numbers.entries c.self.inside.entries.items c.args.self.now c.in_ok-key.key c.args.name.now
    c.self.invariant c.self.view_is c.in_ok-key.ensures.items c.requires
    c.insert.new.self.entries c.reserve.new.self.items c.push_reserved.new.self.items c.len.result c.in_ok-name.name
    c.in_ok-stack.stack (with_binding c.args.depth c.args.value []) c.in_ok-reserve.ensures.items many c.in_ok-insert.ensures.entries
    c.in_ok-name.ensures c.in_ok-stack.ensures c.push_reserved.ensures.items).0

pub returns-clause-ok : goal.returns-clause-ok
returns-clause-ok c =
    let many : c.len.result ≡ length c.reserve.new.self.items = omega (arith, c.len.ensures) in
    (added bytes c.self.inside.numbers.entries c.self.inside.entries.items c.args.self.now c.in_ok-key.key c.args.name.now
    c.self.invariant c.self.view_is c.in_ok-key.ensures.items c.requires
    c.insert.new.self.entries c.reserve.new.self.items c.push_reserved.new.self.items c.len.result c.in_ok-name.name
    c.in_ok-stack.stack (with_binding c.args.depth c.args.value []) c.in_ok-reserve.ensures.items many c.in_ok-insert.ensures.entries
    c.in_ok-name.ensures c.in_ok-stack.ensures c.push_reserved.ensures.items).1
