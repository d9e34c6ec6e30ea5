use Rattle.std.proofs.Common.{◌≡◌, fold, take}
use Rattle.dp_vars.specs.steps.Tables.{unbound_at}
use Rattle.dp_vars.proofs.binding_table.BindingTable.unbind_all.Given as goal

abbrev pub invariant-loop-number : goal.invariant-loop-number
invariant-loop-number l = l.self ≡ fold (unbound_at l.depth) l.fn.self (take l.number-index l.number-items)
