use Rattle.std.proofs.Common.{◌≤◌}
use Rattle.dp_lookup.specs.SearchOrder.{context_count}
use Rattle.dp_lookup_cases.proofs.lookup.orders.refill.Given as goal

abbrev pub invariant-loop-number : goal.invariant-loop-number
invariant-loop-number g l = context_count l.plan ≤ l.order.room
