use Rattle.std.proofs.Common.{◌≡◌, drop}
use Rattle.dp_lookup.specs.SearchOrder.{search_order}
use Rattle.dp_closed.specs.Steps.{AreShapesClosed}
use Rattle.dp_reach.specs.Bounds.{obligations}
use Rattle.dp_closed.proofs.claim_check.Checker.has_shapes.Given as goal

abbrev pub invariant-loop-shape : goal.invariant-loop-shape
invariant-loop-shape g l = l.order ≡ search_order l.self.claim.plan.now l.name → AreShapesClosed (obligations g.T.Functions.Functions.table g.T.DutyTable.duties) l.self l.name (drop l.shape-index l.shapes)
    → AreShapesClosed (obligations g.T.Functions.Functions.table g.T.DutyTable.duties) l.self l.name l.shapes
