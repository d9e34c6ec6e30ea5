use Rattle.std.proofs.Common.{◌≡◌, [], fold, vec_capacity}
use Rattle.dp_lookup.specs.SearchOrder.{visit}
use Rattle.dp_lookup.specs.steps.Filling.{pending, work, IsFilling}
use Rattle.dp_lookup.proofs.visit.visit_all.Given as goal

abbrev pub invariant-loop-name : goal.invariant-loop-name
invariant-loop-name l = record {
  visited : fold (visit l.plan) l.order.items (pending l.plan l.frames.items) ≡ visit l.plan [] l.fn.number;
  filling : IsFilling l.plan l.order.items l.marks l.frames.items;
  order : vec_capacity l.order ≡ vec_capacity l.fn.order;
  frames : vec_capacity l.frames ≡ vec_capacity l.fn.frames;
}

abbrev pub decreases-loop-name : goal.decreases-loop-name
decreases-loop-name l = work l.plan l.order.items l.frames.items
