use Rattle.std.proofs.Common.{◌≡◌, ℕ, ◌<◌, List, Some, slice_get}
use Rattle.dp_closed.specs.Reach.{FitsAny, shapes_at}
use Rattle.dp_pieces.specs.Pieces.{Fits}
use Rattle.dp_pieces.specs.Shown.{shown_all}
use Rattle.dp_plan.specs.Contexts.{PlanContext}
use Rattle.dp_closed.proofs.reach.ReachShapes.has_all.Given as goal

abbrev pub invariant-loop-number : goal.invariant-loop-number
invariant-loop-number l = (k : ℕ) (own : PlanContext) → k < l.number → slice_get l.plan.contexts k ≡ Some own → Fits (shown_all l.context) own.name
    → (text : List ℕ) → Fits (shown_all l.exten) text → FitsAny (shapes_at l.self.shapes.items k) text
