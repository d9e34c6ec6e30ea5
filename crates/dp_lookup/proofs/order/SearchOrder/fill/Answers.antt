use Rattle.std.proofs.Common.{arith}
use Rattle.dp_lookup.proofs.order.SearchOrder.fill.Goals as goal

pub unmark-requires-clause-within : goal.unmark-requires-clause-within
unmark-requires-clause-within c = rw c.deref.ensures.value (λ k d below. omega (arith, c.self.invariant.1 k d below, c.deref_mut.ensures.len))
