use Rattle.dp_vars.proofs.TablesLemmas.{numbered-none}
use Rattle.dp_vars.proofs.binding_table.BindingTable.new.Goals as goal

pub invariant_of-result : goal.invariant_of-result
invariant_of-result c = rw (c.new-2.ensures.empty, c.new.ensures.items) numbered-none
