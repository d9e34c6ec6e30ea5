use Rattle.std.proofs.Common.{◌≡◌, ℕ, ◌<◌, ◌≤◌, Some, slice_get}
use Rattle.dp_closed.specs.Reach.{shapes_at}
use Rattle.dp_closed.specs.Steps.{AreShapesClosed}
use Rattle.dp_lookup.specs.SearchOrder.{context_count}
use Rattle.dp_plan.specs.Contexts.{PlanContext}
use Rattle.dp_reach.specs.Bounds.{obligations}
use Rattle.dp_closed.proofs.claim_check.Checker.has_contexts.Given as goal

abbrev pub invariant-loop-number : goal.invariant-loop-number
invariant-loop-number g l = record {
  room : context_count l.self.claim.plan.now ≤ l.order.room;
  closed : (k : ℕ) (context : PlanContext) → k < l.number → slice_get l.self.claim.plan.now.contexts k ≡ Some context
      → AreShapesClosed (obligations g.T.Functions.Functions.table g.T.DutyTable.duties) l.self context.name (shapes_at l.self.claim.reach.now.shapes.items k);
}
