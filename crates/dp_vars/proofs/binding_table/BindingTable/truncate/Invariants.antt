use Rattle.std.proofs.Common.{◌≡◌, length, take}
use Rattle.dp_vars.proofs.binding_table.BindingTable.truncate.Given as goal

-- the rest is a prefix of the names, with at least the wanted length if there are enough
abbrev pub invariant-loop-self : goal.invariant-loop-self
invariant-loop-self l = take l.len l.self ≡ take l.len l.fn.self

abbrev pub decreases-loop-self : goal.decreases-loop-self
decreases-loop-self l = length l.self
